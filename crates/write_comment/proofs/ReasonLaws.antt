-- What is known of a comment where no reason holds to refuse it. Assumes nothing.
use Rattle.std.specs.Prelude.{◌≡◌, false, ◌||◌, None, List, ℕ, ◌≤◌, length}
use borrow.Author.Tests.{ltb-false}
use Rattle.base_lists.specs.Limits.{most_text}
use Rattle.base_lists.proofs.BoolLaws.{or_left, or_right}
use Rattle.base_buffer.specs.Answer.{refusal_of}
use Rattle.base_buffer.proofs.AnswerLaws.{none_holds}
use Rattle.write_texts.specs.Text.{long, breaks}
use Rattle.write_comment.specs.Comment.{hashed, comment_reasons}

pub record Plain (text : List ℕ) : Type 0 where
  pub short : length text ≤ most_text
  pub unbroken : breaks text ≡ false
  pub unhashed : hashed text ≡ false

pub plain : (text : List ℕ) → refusal_of (comment_reasons text) ≡ None → Plain text
unfolding comment_reasons
plain text e =
    let a = none_holds (long text) _ _ e in
    let b = none_holds (breaks text || hashed text) _ _ a.1 in
    record {
      short = ltb-false _ _ a.0;
      unbroken = or_left (breaks text) (hashed text) b.0;
      unhashed = or_right (breaks text) (hashed text) b.0;
    }
