-- Each public function's promise allows one result. Assumes nothing.
use mathlib.Core.Path.{sym, ◌∙◌}
use Rattle.base_lists.proofs.One.{OneResult}
use Rattle.c_directives.proofs.gff3_version.Kinds as version_kinds
use Rattle.c_directives.proofs.gff3_version.Reads as version
use Rattle.c_directives.proofs.gff3_region.Kinds as region_kinds
use Rattle.c_directives.proofs.gff3_region.Reads as region
use Rattle.c_directives.proofs.gff3_build.Kinds as build_kinds
use Rattle.c_directives.proofs.gff3_build.Reads as build

version_one : OneResult 1 version_kinds.ps version_kinds.r version.Post
version_one κs a x y s t p q = p ∙ sym q

region_one : OneResult 1 region_kinds.ps region_kinds.r region.Post
region_one κs a x y s t p q = p ∙ sym q

build_one : OneResult 1 build_kinds.ps build_kinds.r build.Post
build_one κs a x y s t p q = p ∙ sym q
