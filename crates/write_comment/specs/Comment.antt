-- A comment as it is written, GFF3, Description of the Format; RULES 8.4, 11.5: `#`, text. Assumes nothing: these are definitions.
use Rattle.std.specs.Prelude.{ℕ, Bool, false, ◌||◌, List, [], ◌∷◌, eqb}
use Rattle.base_lists.specs.Bytes.{hash}
use Rattle.base_refusals.specs.declared.Refusal.TheVariants as refusal
use Rattle.base_buffer.specs.Answer.{Reason, ◌when◌}
use Rattle.write_texts.specs.Text.{long, breaks}

-- begins with `#`
unfoldable pub hashed : List ℕ → Bool
hashed [] = false
hashed (x ∷ s) = eqb x hash

-- in order: 24, 20
unfoldable pub comment_reasons : List ℕ → List Reason
comment_reasons text = (refusal.TooLong when long text) ∷ (refusal.Text when breaks text || hashed text) ∷ []

abbrev pub comment_line : List ℕ → List ℕ
comment_line text = hash ∷ text
