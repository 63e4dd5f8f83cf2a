-- Each public function's promise allows one result and one content of a lent buffer. Assumes nothing.
use mathlib.Core.Path.{sym, ◌∙◌}
use Rattle.base_lists.proofs.One.{OneResult}
use Rattle.read_directives.proofs.sequence_region.parse_sequence_region.Kinds as parse_sequence_region_kinds
use Rattle.read_directives.proofs.sequence_region.parse_sequence_region.Reads as parse_sequence_region
use Rattle.read_directives.proofs.genome_build.parse_genome_build.Kinds as parse_genome_build_kinds
use Rattle.read_directives.proofs.genome_build.parse_genome_build.Reads as parse_genome_build

parse_sequence_region_one : OneResult 1 parse_sequence_region_kinds.ps parse_sequence_region_kinds.r parse_sequence_region.Post
parse_sequence_region_one κs a x y s t p q = p ∙ sym q

parse_genome_build_one : OneResult 1 parse_genome_build_kinds.ps parse_genome_build_kinds.r parse_genome_build.Post
parse_genome_build_one κs a x y s t p q = p ∙ sym q
