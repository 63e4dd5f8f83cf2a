-- `lay_sheet`: the sections one after the other. Assumes nothing.
use Rattle.read_judge.specs.Judge.{unfolded}
use Rattle.read_record.proofs.UnfoldLaws.{lays_sheet}
use Rattle.read_record.proofs.lay.lay_sheet.Goals as goal

pub lay_texts-at-requires : goal.lay_texts-at-requires
lay_texts-at-requires c = c.requires.0

pub lay_attributes-laid-requires : goal.lay_attributes-laid-requires
lay_attributes-laid-requires c = rw (c.text_in-rest.ensures.text, c.requires.0) c.requires.1

pub returns : goal.returns
unfolding unfolded
returns c =
    let laid = rw (c.text_in-rest.ensures.text, c.requires.0) at c.lay_attributes-laid.ensures in
    lays_sheet (unfolded c.args.line.now) c.lay_texts-at.ensures c.lay_count-first.ensures laid.0 laid.1
    c.lay_count.ensures
