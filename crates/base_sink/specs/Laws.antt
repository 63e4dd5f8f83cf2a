-- Each of the three is a sink. Assumes nothing.
use native.Mathlib.Omega.{arith}
use mathlib.Core.Path.{◌≡◌, refl, sym, ap, ap₂, ◌∙◌}
use mathlib.Core.Logic.{◌⊎◌, inl, inr}
use mathlib.Core.List.{List, [], ◌++◌}
use Prim.Native.Nat.{ℕ, ◌+◌, ◌-◌, ◌≤◌, ◌<◌, min}
use lib.ListN.{length, length-append}
use Rattle.base_lists.proofs.OrderLaws.{le_or_lt}
use Rattle.base_buffer.specs.Laid.{laid}
use Rattle.base_buffer.proofs.LaidLaws.{laid_append, laid_past, length_laid}
use Rattle.base_sink.specs.Sink.{SinkLaws, PageTook, CountTook, NowhereTook, page_shows, count_shows, nowhere_shows}

-- a text laid behind another that there was no room for is laid nowhere
laid_behind : (a b d : List ℕ) (at : ℕ) → laid (laid d at a) (at + min (length a) (length d - at)) b ≡ laid d at (a ++ b)
laid_behind a b d at = go (le_or_lt (length a) (length d - at))
  where
    l : length (laid d at a) ≡ length d
    l = length_laid a d at

    go : (length a ≤ length d - at) ⊎ (length d - at < length a) → laid (laid d at a) (at + min (length a) (length d - at)) b ≡ laid d at (a ++ b)
    go (inl h) =
        let e : min (length a) (length d - at) ≡ length a = omega arith in
        rw e (sym (laid_append a b d at))
    go (inr h) =
        laid_past b (laid d at a) (at + min (length a) (length d - at)) (omega (arith, l))
        ∙ sym (laid_append a b d at ∙ laid_past b (laid d at a) (at + length a) (omega (arith, l)))

pub page_laws : SinkLaws PageTook page_shows
unfolding laid
page_laws = record {
  nothing = λ p. record { same = refl; left = refl; end = omega arith };
  joins = λ a b p q r f g.
      let l : length q.out.now ≡ length p.out.now = ap length f.left ∙ length_laid a p.out.now p.at in
      record { same = g.same ∙ f.same; left = g.left ∙ rw (f.left, f.end) (laid_behind a b p.out.now p.at); end = simp length-append (omega (arith, l)) };
  one = λ a p q r f g. ap₂ (λ d n. (d, n)) (f.left ∙ sym g.left) (f.end ∙ sym g.end);
}

pub count_laws : SinkLaws CountTook count_shows
count_laws = record {
  nothing = λ p. omega arith;
  joins = λ a b p q r f g. simp length-append (omega arith);
  one = λ a p q r f g. ap (λ n. ([], n)) (f ∙ sym g);
}

pub nowhere_laws : SinkLaws NowhereTook nowhere_shows
nowhere_laws = record { nothing = λ p. tt; joins = λ a b p q r f g. tt; one = λ a p q r f g. refl }
