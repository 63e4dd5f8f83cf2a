-- `place_in` answers `place_in`, arm by arm. Assumes nothing.
use Rattle.read_columns.specs.Columns.{place_in}
use Rattle.read_columns.proofs.ColumnsLaws.{place_is}
use Rattle.read_columns.proofs.column.place_in.Goals as goal

pub returns-in-ReferenceSequenceName : goal.returns-in-ReferenceSequenceName
unfolding place_in
returns-in-ReferenceSequenceName c = rw c.in-ReferenceSequenceName.is (place_is c.between.ensures)

pub returns-in-Source : goal.returns-in-Source
unfolding place_in
returns-in-Source c = rw c.in-Source.is (place_is c.between-in-Source.ensures)

pub returns-in-Ty : goal.returns-in-Ty
unfolding place_in
returns-in-Ty c = rw c.in-Ty.is (place_is c.between-in-Ty.ensures)

pub returns-in-Start : goal.returns-in-Start
unfolding place_in
returns-in-Start c = rw c.in-Start.is (place_is c.between-in-Start.ensures)

pub returns-in-End : goal.returns-in-End
unfolding place_in
returns-in-End c = rw c.in-End.is (place_is c.between-in-End.ensures)

pub returns-in-Score : goal.returns-in-Score
unfolding place_in
returns-in-Score c = rw c.in-Score.is (place_is c.between-in-Score.ensures)

pub returns-in-Strand : goal.returns-in-Strand
unfolding place_in
returns-in-Strand c = rw c.in-Strand.is (place_is c.between-in-Strand.ensures)

pub returns-in-Phase : goal.returns-in-Phase
unfolding place_in
returns-in-Phase c = rw c.in-Phase.is (place_is c.between-in-Phase.ensures)

pub returns-in-Attributes : goal.returns-in-Attributes
unfolding place_in
returns-in-Attributes c = rw c.in-Attributes.is
