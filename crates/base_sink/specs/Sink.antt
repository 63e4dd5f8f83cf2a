-- What it is to take a text. Assumes nothing: these are definitions.
use Rattle.std.specs.Prelude.{◌≡◌, ℕ, List, [], ◌++◌, ◌+◌, ◌-◌, min, length}
use Rattle.base_buffer.specs.Laid.{laid}
use Rattle.base_sink.specs.declared.Page.{Page}
use Rattle.base_sink.specs.declared.Count.{Count}
use Rattle.base_sink.specs.declared.Nowhere.{Nowhere}

-- no text leaves a sink as it is, and texts taken in a row are one text; what a sink shows behind a text, its bytes and its number, is one
pub record SinkLaws {S : Type 0} (took : List ℕ → S → S → Type 0) (shows : S → List ℕ × ℕ) : Type 0 where
  pub nothing : (p : S) → took [] p p
  pub joins : (a b : List ℕ) (p q r : S) → took a p q → took b q r → took (a ++ b) p r
  pub one : (a : List ℕ) (p q r : S) → took a p q → took a p r → shows q ≡ shows r

-- the text is laid over the same buffer from the page's place on, and the place goes on by as many bytes as there was room for
pub record PageTook (text : List ℕ) (p q : Page) : Type 0 where
  pub same : q.out.ghost_name ≡ p.out.ghost_name
  pub left : q.out.now ≡ laid p.out.now p.at text
  pub end : q.at ≡ p.at + min (length text) (length p.out.now - p.at)

-- what its buffer holds, and its place
abbrev pub page_shows : Page → List ℕ × ℕ
page_shows p = (p.out.now, p.at)

-- the largest count of bytes
abbrev pub most : ℕ
most = 18446744073709551615

-- the text's length is added, as far as the count goes
abbrev pub CountTook : List ℕ → Count → Count → Type 0
CountTook text p q = q.bytes ≡ p.bytes + min (length text) (most - p.bytes)

-- the count
abbrev pub count_shows : Count → List ℕ × ℕ
count_shows p = ([], p.bytes)

-- nothing is kept
abbrev pub NowhereTook : List ℕ → Nowhere → Nowhere → Type 0
NowhereTook text p q = Unit {0}

-- nothing is shown
abbrev pub nowhere_shows : Nowhere → List ℕ × ℕ
nowhere_shows p = ([], 0)
