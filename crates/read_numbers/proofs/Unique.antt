-- Each public function's promise allows one result and one content of a lent buffer. Assumes nothing.
use mathlib.Core.Path.{sym, ◌∙◌}
use Rattle.base_lists.proofs.One.{OneResult}
use Rattle.read_numbers.proofs.read.position.Kinds as position_kinds
use Rattle.read_numbers.proofs.read.position.Reads as position
use Rattle.read_numbers.proofs.read.region_position.Kinds as region_position_kinds
use Rattle.read_numbers.proofs.read.region_position.Reads as region_position
use Rattle.read_numbers.proofs.read.version_part.Kinds as version_part_kinds
use Rattle.read_numbers.proofs.read.version_part.Reads as version_part

position_one : OneResult 1 position_kinds.ps position_kinds.r position.Post
position_one κs a x y s t p q = p ∙ sym q

region_position_one : OneResult 1 region_position_kinds.ps region_position_kinds.r region_position.Post
region_position_one κs a x y s t p q = p ∙ sym q

version_part_one : OneResult 1 version_part_kinds.ps version_part_kinds.r version_part.Post
version_part_one κs a x y s t p q = p ∙ sym q
