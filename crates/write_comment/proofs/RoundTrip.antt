-- What the writer accepts reads back as it was, and is one line: where no reason holds to refuse it, a comment is read as a comment of
-- the same text. Assumes nothing.
use Prim.Native.Nat.{ℕ}
use native.Mathlib.Omega.{arith}
use mathlib.Core.Path.{◌≡◌}
use mathlib.Core.Logic.{◌≢◌}
use mathlib.Core.Bool.{false}
use mathlib.Core.List.{List, [], ◌∷◌}
use Rattle.std.specs.Prelude.{None}
use lib.ListN.{get_or}
use borrow.Author.Tests.{eqb-false}
use Rattle.base_lists.specs.Bytes.{hash}
use Rattle.base_buffer.specs.Answer.{refusal_of}
use Rattle.read_kind.specs.declared.kind.Kind.TheVariants.{Comment}
use Rattle.read_kind.specs.Kind.{kind}
use Rattle.read_lines.specs.Lines.{OneLine}
use Rattle.read_kind.specs.Reading.{ReadsComment}
use Rattle.read_kind.proofs.KindLaws.{kind_comment, comment_reads}
use Rattle.write_texts.proofs.TextLaws.{no_return, no_feed}
use Rattle.write_comment.specs.Comment.{hashed, comment_reasons, comment_line}
use Rattle.write_comment.proofs.ReasonLaws.{plain}

first_byte : (text : List ℕ) → hashed text ≡ false → get_or text 0 0 ≢ hash
unfolding hashed
first_byte [] e = λ p. omega arith
first_byte (x ∷ s) e = eqb-false x hash e

module _ (text : List ℕ) (accepted : refusal_of (comment_reasons text) ≡ None) where
  pub comment_kind : kind (comment_line text) ≡ Comment
  comment_kind = kind_comment text (first_byte text (plain text accepted).unhashed)

  pub comment_back : ReadsComment (comment_line text) text
  comment_back = comment_reads text (first_byte text (plain text accepted).unhashed)

  pub comment_one : OneLine (comment_line text)
  comment_one =
      let e = (plain text accepted).unbroken in
      (((λ p. omega arith), no_feed text e), ((λ p. omega arith), no_return text e), omega arith)
