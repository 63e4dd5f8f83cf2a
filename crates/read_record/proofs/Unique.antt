-- Each public function's promise allows one result and one content of a lent buffer. Assumes nothing.
use Rattle.base_lists.proofs.One.{One}
use Rattle.read_record.proofs.UnfoldLaws.{unfolds_one}
use Rattle.read_record.proofs.lay.unfold.Kinds as unfold_kinds
use Rattle.read_record.proofs.lay.unfold.Reads as laying

unfold_one : One 2 unfold_kinds.ps unfold_kinds.r laying.Post (λ κs x. x) (λ κs s. s.1.0.now)
unfold_one κs a x y s t p q = unfolds_one p q
