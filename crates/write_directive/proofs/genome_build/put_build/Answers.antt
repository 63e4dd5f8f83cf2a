-- `put_build`: source and name, each behind a space. Assumes nothing.
use Rattle.write_directive.specs.GenomeBuild.{build_text}
use Rattle.write_directive.proofs.genome_build.put_build.Goals as goal

pub returns : goal.returns
unfolding build_text
returns g c = g.S.Sink.laws.joins _ _ _ _ _ c.put_word.ensures c.put_word-2.ensures
