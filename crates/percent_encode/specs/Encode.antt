-- Encoding: why it is refused, RULES 11.6, 12. Assumes nothing: these are definitions.
use Rattle.std.specs.Prelude.{ℕ, List, [], ◌∷◌, ltb, length}
use Rattle.base_lists.specs.Limits.{most_text}
use Rattle.base_refusals.specs.declared.Refusal.TheVariants as refusal
use Rattle.base_buffer.specs.Answer.{Reason, ◌when◌}

-- why a text is not percent-encoded, in order: 24, too long
abbrev pub encode_reasons : List ℕ → List Reason
encode_reasons s = (refusal.TooLong when ltb most_text (length s)) ∷ []
