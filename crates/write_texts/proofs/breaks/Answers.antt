-- `breaks` answers `breaks`: both searches end before the end. Assumes nothing.
use Rattle.base_lists.specs.Bytes.{lf, cr}
use Rattle.base_scan.specs.Find.{is}
use Rattle.write_texts.proofs.TextLaws.{holds_seek}
use Rattle.write_texts.proofs.breaks.Goals as goal

pub returns : goal.returns
returns c = rw (c.find-2.ensures.first, c.find.ensures.first, holds_seek (is cr), holds_seek (is lf))
