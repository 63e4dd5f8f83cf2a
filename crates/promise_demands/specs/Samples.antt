-- The samples that RULES 14 marks P, as one list: of each its words, and the equation that they stand for,
-- over the definitions that the functions' promises cite. Some stand in the crates' own Samples too, so that a change is refused where it
-- is made. Assumes nothing: these are definitions.
use Rattle.std.specs.Prelude.{ℕ, ◌≡◌, true, List, [], ◌∷◌, map, replicate, None, Some, Result, Ok, Err}
use Prim.Native.String.{String}
use Rattle.std.proofs.Math.Option.{some}
use Rattle.base_lists.specs.Bytes.{ascii}
use Rattle.base_buffer.specs.Answer.{refusal_of, number_or}
use Rattle.base_refusals.specs.declared.Refusal.{Refusal}
use Rattle.base_refusals.specs.Refusal.{number}
use Rattle.percent_coding.specs.Percent.{decoded}
use Rattle.read_kind.specs.Kind.{directive_of}
use Rattle.read_tokens.specs.Tokens.{position_of}
use Rattle.read_columns.specs.declared.column.Column.{Column}
use Rattle.read_columns.specs.declared.column.Column.TheVariants as column
use Rattle.read_columns.specs.Columns.{has_columns, column_text}
use Rattle.read_attributes.specs.Attributes.{done, refused, then, walk, attributes}
use Rattle.read_version.specs.GffVersion.{version_of}
use Rattle.sheet_form.specs.Sheet.{sheet_of}
use Rattle.read_judge.specs.Judge.{judged}
use Rattle.write_measure.specs.Record.{record_reasons, record_line}

-- ── what the list is made of ──────────────────────────────────────────────────────────────────

-- a sample: its words, and what they say
pub record Sample : Type 1 where
  pub words : String
  pub says : Type 0

infix 1 ◌says◌
abbrev pub ◌says◌ : String → Type 0 → Sample
◌says◌ words claim = record { words = words; says = claim }

-- an answer is refused, and its reason has this number (RULES 10)
infix 2 ◌gives◌
abbrev pub ◌gives◌ : {A : Type 0} → Result A Refusal → ℕ → Type 0
◌gives◌ answer n = (r : Refusal) × (answer ≡ Err r) × (number r ≡ n)

-- the nine columns of a line
abbrev pub nine : List ℕ → List (List ℕ)
nine s =
    map (λ (c : Column). column_text c s)
    (column.ReferenceSequenceName ∷ column.Source ∷ column.Ty ∷ column.Start ∷ column.End
    ∷ column.Score ∷ column.Strand ∷ column.Phase ∷ column.Attributes ∷ [])

-- the sheet of a record of some type, without score and attributes
abbrev pub of_type : String → List ℕ
of_type type = sheet_of (record { name = ascii "sq0"; source = ascii "lab"; type = ascii type; score = []; attributes = [] })

-- ── the list ──────────────────────────────────────────────────────────────────────────────────

abbrev pub samples : List Sample
samples =
    -- tabs
    ("`a` and seven tabs gives 1" says judged (ascii "a\t\t\t\t\t\t\t") gives 1)
    ∷ ("eight tabs alone are a record of nine empty columns" says (has_columns (ascii "\t\t\t\t\t\t\t\t") ≡ true) × (nine (ascii "\t\t\t\t\t\t\t\t") ≡ replicate 9 []))
    -- the walk over column 9
    ∷ ("`a=1;b;c=2` has tags `a` and `b;c`" says walk (ascii "a=1;b;c=2") ≡ then (ascii "a") (ascii "1") (then (ascii "b;c") (ascii "2") done))
    ∷ ("`a=1;` has one" says walk (ascii "a=1;") ≡ then (ascii "a") (ascii "1") done)
    ∷ ("`a=1;b` has one, then 5" says walk (ascii "a=1;b") ≡ then (ascii "a") (ascii "1") refused)
    ∷ ("`=` has an empty tag and an empty value" says walk (ascii "=") ≡ then [] [] done)
    -- its values
    ∷ ("`a=x%2Cy` is one string `x,y`" says attributes (walk (ascii "a=x%2Cy")) ≡ some (record { tag = ascii "a"; values = ascii "x,y" ∷ [] } ∷ []))
    ∷ ("`a=x,y` is two" says attributes (walk (ascii "a=x,y")) ≡ some (record { tag = ascii "a"; values = ascii "x" ∷ ascii "y" ∷ [] } ∷ []))
    -- decoding
    ∷ ("`%2541` decodes to `%41`" says decoded (ascii "%2541") ≡ ascii "%41")
    ∷ ("`%%41` to `%A`" says decoded (ascii "%%41") ≡ ascii "%A")
    ∷ ("`%4` stays" says decoded (ascii "%4") ≡ ascii "%4")
    -- versions
    ∷ ("`3.1.26.4` gives 9" says version_of (ascii "3.1.26.4") gives 9)
    ∷ ("`3.` gives 8" says version_of (ascii "3.") gives 8)
    ∷ ("`+3` is major 3" says version_of (ascii "+3") ≡ Ok (record { major = 3; minor = None; patch = None }))
    -- directives: an empty text has a place, from its start to its end
    ∷ ("`##` has an empty key and no value" says directive_of (ascii "##") ≡ Some (record { key = record { start = 2; end = 2 }; value = None }))
    ∷ ("`## ` an empty key and an empty value" says directive_of (ascii "## ") ≡ Some (record { key = record { start = 2; end = 2 }; value = Some (record { start = 3; end = 3 }) }))
    -- writing: start 8, end 13, strand `+`, phase none
    ∷ ("type `CDS` with phase none gives 18" says number_or (refusal_of (record_reasons (of_type "CDS") 8 13 1 3)) 0 ≡ 18)
    ∷ ("type `cds` is written" says (refusal_of (record_reasons (of_type "cds") 8 13 1 3) ≡ None) × (record_line (of_type "cds") 8 13 1 3 ≡ ascii "sq0\tlab\tcds\t8\t13\t.\t+\t.\t."))
    -- positions
    ∷ ("position `18446744073709551616` gives 2" says position_of (ascii "18446744073709551616") gives 2)
    ∷ ("one less is read" says position_of (ascii "18446744073709551615") ≡ Ok 18446744073709551615)
    ∷ ("`0` gives 2" says position_of (ascii "0") gives 2)
    ∷ []
