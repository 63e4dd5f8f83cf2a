-- Each public function's promise allows one result and one content of a lent buffer. Assumes nothing.
use mathlib.Core.Path.{sym, ◌∙◌}
use Rattle.base_lists.proofs.One.{OneResult}
use Rattle.read_version.proofs.parse_gff_version.Kinds as parse_gff_version_kinds
use Rattle.read_version.proofs.parse_gff_version.Reads as parse_gff_version

parse_gff_version_one : OneResult 1 parse_gff_version_kinds.ps parse_gff_version_kinds.r parse_gff_version.Post
parse_gff_version_one κs a x y s t p q = p ∙ sym q
