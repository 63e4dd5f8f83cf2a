-- Each sink's promise allows one result. Assumes nothing.
use mathlib.Core.Path.{◌≡◌, sym, ◌∙◌}
use mathlib.Core.List.{List}
use Prim.Native.Nat.{ℕ}
use Rattle.base_sink.specs.declared.Page.{Page}
use Rattle.base_sink.specs.declared.Count.{Count}
use Rattle.base_sink.specs.Sink.{PageTook, CountTook}

page_one : (text : List ℕ) (p q q' : Page) → PageTook text p q → PageTook text p q' → (q.out.now ≡ q'.out.now) × (q.at ≡ q'.at)
page_one text p q q' f g = (f.left ∙ sym g.left, f.end ∙ sym g.end)

count_one : (text : List ℕ) (p q q' : Count) → CountTook text p q → CountTook text p q' → q.bytes ≡ q'.bytes
count_one text p q q' f g = f ∙ sym g
