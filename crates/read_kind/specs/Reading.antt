-- What it means that a comment or a directive reads back, RULES 9.4: its text, or its key and value text. Assumes
-- nothing: these are definitions.
use Rattle.std.specs.Prelude.{ℕ, ◌≡◌, List, Option, Some, option_map}
use Rattle.base_scan.specs.Part.{text_at}
use Rattle.base_scan.specs.declared.place.Place.{Place}
use Rattle.read_kind.specs.Kind.{comment_of, directive_of}

-- the line is a comment of this text
pub record ReadsComment (line text : List ℕ) : Type 0 where
  pub place : Place
  pub answer : comment_of line ≡ Some place
  pub reads : text_at place line ≡ text

-- the value's text, if there is a value
abbrev pub value_read : List ℕ → Option Place → Option (List ℕ)
value_read line = option_map (λ place. text_at place line)

-- the line is a directive of this key and, maybe, this value
pub record ReadsDirective (line key : List ℕ) (text : Option (List ℕ)) : Type 0 where
  pub key_place : Place
  pub value : Option Place
  pub answer : directive_of line ≡ Some (record { key = key_place; value = value })
  pub reads_key : text_at key_place line ≡ key
  pub reads_value : value_read line value ≡ text
