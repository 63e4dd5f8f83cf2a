-- Where the walk over column 9 is refused, by its last `=`: the walk is in a value behind it, whatever stood before; so it is refused where
-- a `;` ends that value and more follows. Assumes nothing.
use Prim.Native.Nat.{ℕ, zero, suc, ◌+◌, ◌-◌, ◌≤◌, ◌<◌}
use native.Mathlib.Omega.{arith}
use native.Mathlib.Numerals.{add-one}
use mathlib.Core.Path.{◌≡◌, refl, sym, ap, ◌∙◌}
use mathlib.Core.Bool.{Bool, true, false, cond, true≢false}
use mathlib.Core.List.{List, [], ◌∷◌, ◌++◌}
use mathlib.Core.Option.{Option, none, some}
use lib.Dec.{eqb, ltb}
use lib.ListN.{length, take, drop, length-append, length-drop}
use borrow.Author.Tests.{ne_eqb, lt-ltb}
use Rattle.base_lists.specs.Bytes.{Lacks, semicolon, equals}
use Rattle.base_words.specs.Same.{is_dot}
use Rattle.base_scan.specs.Find.{index, is, found, found_last}
use Rattle.base_scan.proofs.FindLaws.{seek_at}
use Rattle.base_scan.proofs.LastLaws.{LastCut, last_cut, last_lacks}
use Rattle.read_attributes.specs.Attributes.{Attribute, Walk, then, tag_after, value_after, attribute, attributes, and_before}
use Rattle.read_attributes.specs.Attributes.{is_empty, walk_from, walk}
use Rattle.read_judge.specs.Judge.{stuck}

-- an attribute that is met refuses nothing
stuck_then : (tag value : List ℕ) (w : Walk) → stuck (attributes (then tag value w)) ≡ stuck (attributes w)
unfolding attributes
stuck_then tag value w = go (attribute tag value) (attributes w)
  where
    go : (a : Attribute) (o : Option (List Attribute)) → stuck (and_before a o) ≡ stuck o
    go a none = refl
    go a (some l) = refl

-- text without `=` is refused, if there is any
stuck_tag : (s tag : List ℕ) → Lacks equals s → stuck (attributes (tag_after tag s)) ≡ ltb 0 (length tag + length s)
unfolding attributes tag_after
stuck_tag [] [] h = refl
stuck_tag [] (y ∷ tag) h = sym (lt-ltb 0 (suc (length tag) + 0) (omega arith))
stuck_tag (x ∷ s) tag h =
    let l : length (tag ++ (x ∷ [])) + length s ≡ length tag + suc (length s) = simp length-append (omega arith) in
    rw (ne_eqb x equals h.0) (stuck_tag s (tag ++ (x ∷ [])) h.1 ∙ ap (ltb 0) l)

-- in a value with no `=` behind it: refused where more than its `;` follows
abbrev more_follows : List ℕ → Bool
more_follows s = ltb 1 (length s - index (is semicolon) s)

same_more : (n : ℕ) → ltb 0 (0 + n) ≡ ltb 1 (suc n - 0)
same_more zero = refl
same_more (suc n) = lt-ltb 0 (0 + suc n) (omega arith) ∙ sym (lt-ltb 1 (suc (suc n) - 0) (omega arith))

stuck_value : (s tag value : List ℕ) → Lacks equals s → stuck (attributes (value_after tag value s)) ≡ more_follows s
unfolding attributes value_after index
stuck_value [] tag value h = refl
stuck_value (x ∷ s) tag value h = go (eqb x semicolon) (stuck_value s tag (value ++ (x ∷ [])) h.1)
  where
    go : (t : Bool) → stuck (attributes (value_after tag (value ++ (x ∷ [])) s)) ≡ more_follows s
        → stuck (attributes (cond t (then tag value (tag_after [] s)) (value_after tag (value ++ (x ∷ [])) s)))
        ≡ ltb 1 (suc (length s) - cond t zero (suc (index (is semicolon) s)))
    go true rest = stuck_then tag value (tag_after [] s) ∙ stuck_tag s [] h.1 ∙ same_more (length s)
    go false rest =
        let i = index (is semicolon) s in
        let l : length s - i ≡ suc (length s) - suc i = omega arith in rest ∙ ap (ltb 1) l

-- behind an `=` that no other follows the walk is in a value, from a tag on and from a value on
module _ (b : List ℕ) (h : Lacks equals b) where
  record Lands (a : List ℕ) : Type 0 where
    from_tag : (tag : List ℕ) → stuck (attributes (tag_after tag (a ++ equals ∷ b))) ≡ more_follows b
    from_value : (tag value : List ℕ) → stuck (attributes (value_after tag value (a ++ equals ∷ b))) ≡ more_follows b

  lands : (a : List ℕ) → Lands a
  unfolding tag_after value_after
  lands [] = record { from_tag = λ tag. stuck_value b tag [] h; from_value = λ tag value. stuck_value b tag (value ++ (equals ∷ [])) h }
  lands (x ∷ a) =
      let rest = lands a in
      record {
        from_tag = λ tag. tag_then tag (eqb x equals) (rest.from_tag (tag ++ (x ∷ []))) (rest.from_value tag []);
        from_value = λ tag value. value_then tag value (eqb x semicolon) (rest.from_tag []) (rest.from_value tag (value ++ (x ∷ [])));
      }
    where
      tag_then : (tag : List ℕ) (t : Bool) → stuck (attributes (tag_after (tag ++ (x ∷ [])) (a ++ equals ∷ b))) ≡ more_follows b
          → stuck (attributes (value_after tag [] (a ++ equals ∷ b))) ≡ more_follows b
          → stuck (attributes (cond t (value_after tag [] (a ++ equals ∷ b)) (tag_after (tag ++ (x ∷ [])) (a ++ equals ∷ b)))) ≡ more_follows b
      tag_then tag true p q = q
      tag_then tag false p q = p

      value_then : (tag value : List ℕ) (t : Bool) → stuck (attributes (tag_after [] (a ++ equals ∷ b))) ≡ more_follows b
          → stuck (attributes (value_after tag (value ++ (x ∷ [])) (a ++ equals ∷ b))) ≡ more_follows b
          → stuck (attributes (cond t (then tag value (tag_after [] (a ++ equals ∷ b)))
          (value_after tag (value ++ (x ∷ [])) (a ++ equals ∷ b)))) ≡ more_follows b
      value_then tag value true p q = stuck_then tag value (tag_after [] (a ++ equals ∷ b)) ∙ p
      value_then tag value false p q = q

-- ── the column ────────────────────────────────────────────────────────────────────────────────

-- `.` and nothing are not refused
pub empty_unstuck : (s : List ℕ) → is_empty s ≡ true → stuck (attributes (walk s)) ≡ false
unfolding attributes tag_after is_empty walk_from is_dot
empty_unstuck [] e = refl
empty_unstuck (x ∷ s) e = rw e

some_walk : (s : List ℕ) → is_empty s ≡ false → (walk s ≡ tag_after [] s) × (0 < length s)
unfolding is_empty walk_from
some_walk [] e = absurd (true≢false e)
some_walk (x ∷ s) e = (rw e, omega arith)

module _ (s : List ℕ) (some : is_empty s ≡ false) where
  pub unequal_stuck : found_last equals s ≡ length s → stuck (attributes (walk s)) ≡ true
  unequal_stuck e =
      let w = some_walk s some in
      rw w.0 (stuck_tag s [] (last_lacks equals s e) ∙ lt-ltb 0 (0 + length s) (omega (arith, w.1)))

  pub last_stuck : {r : ℕ} → r ≡ found_last equals s → r < length s
      → stuck (attributes (walk s)) ≡ ltb 1 (length s - found semicolon (r + 1) s)
  last_stuck {r} e h =
      let last : LastCut equals s r = rw e (last_cut equals s (omega arith)) in
      let behind = drop (suc r) s in
      let one = add-one r in
      let k : suc r ≤ length s = omega arith in
      let far : length behind - index (is semicolon) behind ≡ length s - found semicolon (r + 1) s
      = rw one (omega (arith, length-drop (suc r) s, seek_at (is semicolon) (suc r) s k)) in
      rw (some_walk s some).0
      (ap (λ (l : List ℕ). stuck (attributes (tag_after [] l))) last.cut
      ∙ (lands behind last.behind (take r s)).from_tag []
      ∙ ap (ltb 1) far)
