-- What a line is, and what a comment or a directive holds: GFF3, Description of the Format and Directives; RULES 2. Starts with `##`:
-- directive. Else starts with `#`: comment, text from byte 1. Else, the empty line included: record. Of a directive, after `##`, the key
-- runs to the first ASCII white space; the value is what follows that byte, and is absent only if there was no such byte. Assumes nothing:
-- these are definitions.
use Rattle.std.specs.Prelude.{ℕ, ◌+◌, cond, List, [], ◌∷◌, eqb, length, Option, None, Some}
use Rattle.base_lists.specs.Bytes.{hash}
use Rattle.base_scan.specs.declared.place.Place.{Place}
use Rattle.base_words.specs.Word.{space}
use Rattle.read_kind.specs.declared.kind.Kind.{Kind}
use Rattle.read_kind.specs.declared.kind.Kind.TheVariants.{Directive, Comment, Record}
use Rattle.read_kind.specs.declared.directive.KeyValue.{KeyValue}

-- by the line's first two bytes
unfoldable pub kind : List ℕ → Kind
kind [] = Record
kind (x ∷ []) = cond (eqb x hash) Comment Record
kind (x ∷ y ∷ s) = cond (eqb x hash) (cond (eqb y hash) Directive Comment) Record

-- the number of a kind, as C has it
abbrev pub kind_number : Kind → ℕ
kind_number Directive = 0
kind_number Comment = 1
kind_number Record = 2

-- the comment's text, from byte 1; none, the line is no comment
abbrev pub comment_by : Kind → List ℕ → Option Place
comment_by Comment s = Some (record { start = 1; end = length s })
comment_by Directive s = None
comment_by Record s = None

unfoldable pub comment_of : List ℕ → Option Place
comment_of s = comment_by (kind s) s

-- the value behind the white space at k, if there is any
abbrev pub value_behind : List ℕ → ℕ → Option Place
value_behind s k = cond (eqb k (length s)) None (Some (record { start = k + 1; end = length s }))

-- key and value, from byte 2; none, the line is no directive
abbrev pub directive_by : Kind → List ℕ → Option KeyValue
directive_by Directive s = Some (record { key = record { start = 2; end = space 2 s }; value = value_behind s (space 2 s) })
directive_by Comment s = None
directive_by Record s = None

unfoldable pub directive_of : List ℕ → Option KeyValue
directive_of s = directive_by (kind s) s
