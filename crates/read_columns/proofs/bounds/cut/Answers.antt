-- `cut` answers the ends of columns 1 to 8: each cut is one past the next tab, which the mask has or a search finds. Assumes nothing.
use Rattle.std.proofs.Common.{◌≡◌, refl, ap}
use Rattle.read_columns.specs.declared.bounds.Bounds.{Bounds}
use Rattle.read_columns.specs.Columns.{past_tab}
use Rattle.read_columns.proofs.ColumnsLaws.{ends_by}
use Rattle.read_columns.proofs.NearLaws.{near_next, next_is}
use Rattle.read_columns.proofs.bounds.cut.Goals as goal
use Rattle.read_columns.proofs.bounds.cut.Goals.{After-past_tab-end_end, After-past_tab-reference_sequence_name_end, After-past_tab-score_end, After-past_tab-source_end, After-past_tab-start_end, After-past_tab-strand_end, After-past_tab-type_end}

end₁ : (c : After-past_tab-reference_sequence_name_end) → c.past_tab-reference_sequence_name_end.result ≡ past_tab 1 c.args.line.now
unfolding past_tab
end₁ c = next_is c.args.line.now 0 c.past_tab-reference_sequence_name_end.ensures refl

end₂ : (c : After-past_tab-source_end) → c.past_tab-source_end.result ≡ past_tab 2 c.args.line.now
unfolding past_tab
end₂ c =
    let end₁ : c.past_tab-reference_sequence_name_end.result ≡ past_tab 1 c.args.line.now = next_is c.args.line.now 0 c.past_tab-reference_sequence_name_end.ensures refl in
    next_is c.args.line.now 1 c.past_tab-source_end.ensures (end₁)

end₃ : (c : After-past_tab-type_end) → c.past_tab-type_end.result ≡ past_tab 3 c.args.line.now
unfolding past_tab
end₃ c =
    let end₁ : c.past_tab-reference_sequence_name_end.result ≡ past_tab 1 c.args.line.now = next_is c.args.line.now 0 c.past_tab-reference_sequence_name_end.ensures refl in
    let end₂ : c.past_tab-source_end.result ≡ past_tab 2 c.args.line.now = next_is c.args.line.now 1 c.past_tab-source_end.ensures (end₁) in
    next_is c.args.line.now 2 c.past_tab-type_end.ensures (end₂)

end₄ : (c : After-past_tab-start_end) → c.past_tab-start_end.result ≡ past_tab 4 c.args.line.now
unfolding past_tab
end₄ c =
    let end₁ : c.past_tab-reference_sequence_name_end.result ≡ past_tab 1 c.args.line.now = next_is c.args.line.now 0 c.past_tab-reference_sequence_name_end.ensures refl in
    let end₂ : c.past_tab-source_end.result ≡ past_tab 2 c.args.line.now = next_is c.args.line.now 1 c.past_tab-source_end.ensures (end₁) in
    let end₃ : c.past_tab-type_end.result ≡ past_tab 3 c.args.line.now = next_is c.args.line.now 2 c.past_tab-type_end.ensures (end₂) in
    next_is c.args.line.now 3 c.past_tab-start_end.ensures (end₃)

end₅ : (c : After-past_tab-end_end) → c.past_tab-end_end.result ≡ past_tab 5 c.args.line.now
unfolding past_tab
end₅ c =
    let end₁ : c.past_tab-reference_sequence_name_end.result ≡ past_tab 1 c.args.line.now = next_is c.args.line.now 0 c.past_tab-reference_sequence_name_end.ensures refl in
    let end₂ : c.past_tab-source_end.result ≡ past_tab 2 c.args.line.now = next_is c.args.line.now 1 c.past_tab-source_end.ensures (end₁) in
    let end₃ : c.past_tab-type_end.result ≡ past_tab 3 c.args.line.now = next_is c.args.line.now 2 c.past_tab-type_end.ensures (end₂) in
    let end₄ : c.past_tab-start_end.result ≡ past_tab 4 c.args.line.now = next_is c.args.line.now 3 c.past_tab-start_end.ensures (end₃) in
    next_is c.args.line.now 4 c.past_tab-end_end.ensures (end₄)

end₆ : (c : After-past_tab-score_end) → c.past_tab-score_end.result ≡ past_tab 6 c.args.line.now
unfolding past_tab
end₆ c =
    let end₁ : c.past_tab-reference_sequence_name_end.result ≡ past_tab 1 c.args.line.now = next_is c.args.line.now 0 c.past_tab-reference_sequence_name_end.ensures refl in
    let end₂ : c.past_tab-source_end.result ≡ past_tab 2 c.args.line.now = next_is c.args.line.now 1 c.past_tab-source_end.ensures (end₁) in
    let end₃ : c.past_tab-type_end.result ≡ past_tab 3 c.args.line.now = next_is c.args.line.now 2 c.past_tab-type_end.ensures (end₂) in
    let end₄ : c.past_tab-start_end.result ≡ past_tab 4 c.args.line.now = next_is c.args.line.now 3 c.past_tab-start_end.ensures (end₃) in
    let end₅ : c.past_tab-end_end.result ≡ past_tab 5 c.args.line.now = next_is c.args.line.now 4 c.past_tab-end_end.ensures (end₄) in
    next_is c.args.line.now 5 c.past_tab-score_end.ensures (end₅)

end₇ : (c : After-past_tab-strand_end) → c.past_tab-strand_end.result ≡ past_tab 7 c.args.line.now
unfolding past_tab
end₇ c =
    let end₁ : c.past_tab-reference_sequence_name_end.result ≡ past_tab 1 c.args.line.now = next_is c.args.line.now 0 c.past_tab-reference_sequence_name_end.ensures refl in
    let end₂ : c.past_tab-source_end.result ≡ past_tab 2 c.args.line.now = next_is c.args.line.now 1 c.past_tab-source_end.ensures (end₁) in
    let end₃ : c.past_tab-type_end.result ≡ past_tab 3 c.args.line.now = next_is c.args.line.now 2 c.past_tab-type_end.ensures (end₂) in
    let end₄ : c.past_tab-start_end.result ≡ past_tab 4 c.args.line.now = next_is c.args.line.now 3 c.past_tab-start_end.ensures (end₃) in
    let end₅ : c.past_tab-end_end.result ≡ past_tab 5 c.args.line.now = next_is c.args.line.now 4 c.past_tab-end_end.ensures (end₄) in
    let end₆ : c.past_tab-score_end.result ≡ past_tab 6 c.args.line.now = next_is c.args.line.now 5 c.past_tab-score_end.ensures (end₅) in
    next_is c.args.line.now 6 c.past_tab-strand_end.ensures (end₆)

pub past_tab-reference_sequence_name_end-requires : goal.past_tab-reference_sequence_name_end-requires
unfolding past_tab
past_tab-reference_sequence_name_end-requires c = near_next c.args.line.now 0 (ap (λ (b : Bounds). b.reference_sequence_name_end) c.requires) refl

pub past_tab-source_end-requires : goal.past_tab-source_end-requires
unfolding past_tab
past_tab-source_end-requires c = near_next c.args.line.now 1 (ap (λ (b : Bounds). b.source_end) c.requires) (end₁ (goal.at.past_tab-source_end-requires c).After-past_tab-reference_sequence_name_end)

pub past_tab-type_end-requires : goal.past_tab-type_end-requires
unfolding past_tab
past_tab-type_end-requires c = near_next c.args.line.now 2 (ap (λ (b : Bounds). b.type_end) c.requires) (end₂ (goal.at.past_tab-type_end-requires c).After-past_tab-source_end)

pub past_tab-start_end-requires : goal.past_tab-start_end-requires
unfolding past_tab
past_tab-start_end-requires c = near_next c.args.line.now 3 (ap (λ (b : Bounds). b.start_end) c.requires) (end₃ (goal.at.past_tab-start_end-requires c).After-past_tab-type_end)

pub past_tab-end_end-requires : goal.past_tab-end_end-requires
unfolding past_tab
past_tab-end_end-requires c = near_next c.args.line.now 4 (ap (λ (b : Bounds). b.end_end) c.requires) (end₄ (goal.at.past_tab-end_end-requires c).After-past_tab-start_end)

pub past_tab-score_end-requires : goal.past_tab-score_end-requires
unfolding past_tab
past_tab-score_end-requires c = near_next c.args.line.now 5 (ap (λ (b : Bounds). b.score_end) c.requires) (end₅ (goal.at.past_tab-score_end-requires c).After-past_tab-end_end)

pub past_tab-strand_end-requires : goal.past_tab-strand_end-requires
unfolding past_tab
past_tab-strand_end-requires c = near_next c.args.line.now 6 (ap (λ (b : Bounds). b.strand_end) c.requires) (end₆ (goal.at.past_tab-strand_end-requires c).After-past_tab-score_end)

pub past_tab-phase_end-requires : goal.past_tab-phase_end-requires
unfolding past_tab
past_tab-phase_end-requires c = near_next c.args.line.now 7 (ap (λ (b : Bounds). b.phase_end) c.requires) (end₇ (goal.at.past_tab-phase_end-requires c).After-past_tab-strand_end)

pub returns : goal.returns
returns c =
    ends_by c.args.line.now c.past_tab-reference_sequence_name_end.ensures c.past_tab-source_end.ensures c.past_tab-type_end.ensures
    c.past_tab-start_end.ensures c.past_tab-end_end.ensures c.past_tab-score_end.ensures c.past_tab-strand_end.ensures c.past_tab-phase_end.ensures
