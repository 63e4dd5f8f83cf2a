-- What the rewriting program writes, RULES 13: records unfolded and written again, other lines as read, a refused line as `! ` and its
-- number, each with a line feed. Assumes nothing: these are definitions.
use Rattle.std.specs.Prelude.{ℕ, cond, Result, Ok, Err, List, [], ◌∷◌, ◌++◌, map, length}
use Rattle.std.proofs.Math.Dec.{ltb}
use Rattle.base_lists.specs.Bytes.{ascii}
use Rattle.base_buffer.specs.declared.WriteError.{WriteError}
use Rattle.base_buffer.specs.Answer.{Reason, refusal_of, answer, error_number}
use Rattle.write_decimals.specs.Decimal.{decimal}
use Rattle.read_kind.specs.declared.kind.Kind.{Kind}
use Rattle.read_kind.specs.declared.kind.Kind.TheVariants.{Directive, Comment, Record}
use Rattle.read_kind.specs.Kind.{kind}
use Rattle.read_lines.specs.Lines.{lines, text}
use Rattle.read_tokens.specs.Tokens.{strand_number, phase_number}
use Rattle.sheet_form.specs.Sheet.{sheet_of}
use Rattle.read_judge.specs.declared.judging.Numbers.{Numbers}
use Rattle.read_judge.specs.Judge.{unfolded, numbers_of, unfold_reasons}
use Rattle.write_measure.specs.Record.{record_reasons, record_line}

-- the size of the program's buffers: the input, a sheet, a line
abbrev pub room : ℕ
room = 65536

-- ── a record, unfolded and written again ──

-- the sheet that a line unfolds to
abbrev pub sheet_from : List ℕ → List ℕ
sheet_from s = sheet_of (unfolded s)

-- the line of a sheet and the numbers beside it
abbrev pub line_again : List ℕ → Numbers → List ℕ
line_again sheet n = record_line sheet n.start n.end (strand_number n.strand) (phase_number n.phase)

-- ── what is written ──

-- `! ` and its number
abbrev pub refusal : ℕ → List ℕ
refusal n = ascii "! " ++ decimal n

-- what a writer of a text answers of one of the program's buffers: the first of the reasons, or 22 where the text does not fit
abbrev pub answer_for : List Reason → List ℕ → Result ℕ WriteError
answer_for reasons text = answer (refusal_of reasons) (ltb room (length text)) (length text)

-- its refusal or, where it wrote the text, a line that is made of that
abbrev pub refused_or : Result ℕ WriteError → List ℕ → List ℕ
refused_or (Ok n) line = line
refused_or (Err e) line = refusal (error_number e)

-- for a sheet and its numbers
unfoldable pub written_again : List ℕ → Numbers → List ℕ
written_again sheet n =
    refused_or (answer_for (record_reasons sheet n.start n.end (strand_number n.strand) (phase_number n.phase)) (line_again sheet n))
    (line_again sheet n)

-- for a record: unfolding's refusal, or what is written for its sheet
unfoldable pub record_again : List ℕ → List ℕ
record_again s = refused_or (answer_for (unfold_reasons s) (sheet_from s)) (written_again (sheet_from s) (numbers_of s))

-- for a line of a kind
abbrev pub rewritten_by : Kind → List ℕ → List ℕ
rewritten_by Record s = record_again s
rewritten_by Comment s = s
rewritten_by Directive s = s

unfoldable pub line_rewritten : List ℕ → List ℕ
line_rewritten s = rewritten_by (kind s) s

-- for a text: `! 24` alone where it does not fit; else what is written for each line in its order, each with a line feed
unfoldable pub rewritten : List ℕ → List ℕ
rewritten s = cond (ltb room (length s)) (text (refusal 24 ∷ [])) (text (map line_rewritten (lines s)))
