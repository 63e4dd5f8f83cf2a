-- Columns 1 to 3 of a record as C asks for them and gets them, a case at a time (RULES 16). Assumes nothing: these are definitions.
use Rattle.std.specs.Prelude.{ℕ, true, cond, Option, Some, None, List, [], ◌∷◌, eqb}
use Rattle.base_refusals.specs.declared.Refusal.TheVariants as refusal
use Rattle.base_buffer.specs.Answer.{Reason, ◌when◌}
use Rattle.percent_coding.specs.Percent.{decoded}
use Rattle.read_columns.specs.declared.bounds.Bounds.{Bounds}
use Rattle.read_columns.specs.declared.column.Column.{Column}
use Rattle.read_columns.specs.declared.column.Column.TheVariants as column
use Rattle.read_columns.specs.Columns.{column_text}
use Rattle.read_fields.specs.Fields.{text_reasons}

-- the column that is decoded, by its number, 1 to 3
abbrev pub text_column_of_c : ℕ → Option Column
text_column_of_c n =
    cond (eqb n 1) (Some column.ReferenceSequenceName) (cond (eqb n 2) (Some column.Source) (cond (eqb n 3) (Some column.Ty) None))

-- the reasons to refuse, and the text: a number that is none of the three is refused by 1 (RULES 16.3), and has no text
abbrev pub c_text_reasons : Option Column → List ℕ → Bounds → List Reason
c_text_reasons None s b = (refusal.Columns when true) ∷ []
c_text_reasons (Some c) s b = text_reasons s b

abbrev pub c_text : Option Column → List ℕ → List ℕ
c_text None s = []
c_text (Some c) s = decoded (column_text c s)
