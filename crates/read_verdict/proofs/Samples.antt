-- Samples, computed. Assumes nothing.
use mathlib.Core.Path.{◌≡◌, refl}
use Rattle.base_lists.specs.Bytes.{ascii}
use Rattle.read_kind.specs.Kind.{kind}
use Rattle.read_verdict.specs.declared.Verdict.TheVariants.{Directive, Comment}
use Rattle.read_verdict.specs.Verdict.{verdict}

samples : (verdict (ascii "##gff-version x") ≡ Directive) × (verdict (ascii "# a note") ≡ Comment)
unfolding kind verdict
samples = (refl, refl)
