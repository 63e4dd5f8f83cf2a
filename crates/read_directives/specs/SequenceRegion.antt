-- The value of `sequence-region`, GFF3, Directives; RULES 7.3: words between ASCII white space, name, start, end; positions as the standard
-- Rust integer reader takes them. Extra words are ignored; start may exceed end; the name is not percent-decoded. Refusals, from left to
-- right: 6, the text is empty; 10, name missing; 11, 12, start missing, not valid; 13, 14, end missing, not valid. Assumes nothing: these
-- are definitions.
use Rattle.std.specs.Prelude.{ℕ, List, [], ◌∷◌, Result, Ok, Err}
use Rattle.base_refusals.specs.declared.Refusal.{Refusal}
use Rattle.base_refusals.specs.declared.Refusal.TheVariants as refusal
use Rattle.base_scan.specs.declared.place.Place.{Place}
use Rattle.base_scan.specs.Part.{text_at}
use Rattle.read_numbers.specs.Number.{region_position, number_then}
use Rattle.read_directives.specs.declared.sequence_region.SequenceRegion.{SequenceRegion}
use Rattle.read_directives.specs.Then.{word_then}

-- the end, where name and start were read
unfoldable pub end_of : List ℕ → Place → ℕ → ℕ → Result SequenceRegion Refusal
end_of s name start at =
    word_then (Err refusal.RegionEndMissing) s at (λ place. number_then (Err refusal.RegionEnd) (region_position (text_at place s)) (λ end. Ok (record {
      name =
          name;
      start = start;
      end = end;
    })))

unfoldable pub start_of : List ℕ → Place → Result SequenceRegion Refusal
start_of s name =
    word_then (Err refusal.RegionStartMissing) s name.end (λ place. number_then (Err refusal.RegionStart) (region_position (text_at place s)) (λ start. end_of s name start place.end))

unfoldable pub region_of : List ℕ → Result SequenceRegion Refusal
region_of [] = Err refusal.Empty
region_of (x ∷ s) = word_then (Err refusal.RegionNameMissing) (x ∷ s) 0 (λ name. start_of (x ∷ s) name)
