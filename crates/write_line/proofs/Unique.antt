-- Each public function's promise allows one result, and one thing that a sink then shows. Assumes nothing.
use mathlib.Core.Path.{sym, ◌∙◌}
use mir.Syntax.{Dict}
use denote.RattleType.{RattleType}
use denote.Param.Laws.{Laws}
use Rattle.base_lists.proofs.One.{One, OneResult}
use Rattle.base_sink.specs.declared.Sink.{Ghosts}
use Rattle.percent_encode.specs.declared.put.Coded.{Ghosts as CodedGhosts}
use Rattle.write_line.proofs.line.count_line.Kinds as count_line_kinds
use Rattle.write_line.proofs.line.count_line.Reads as count_line
use Rattle.write_line.proofs.line.is_form.Kinds as is_form_kinds
use Rattle.write_line.proofs.line.is_form.Reads as is_form
use Rattle.write_line.proofs.line.put_line.Kinds as put_line_kinds
use Rattle.write_line.proofs.line.put_line.Reads as put_line

is_form_one : OneResult 1 is_form_kinds.ps is_form_kinds.r is_form.Post
is_form_one κs a x y s t p q = p ∙ sym q

count_line_one : OneResult 1 count_line_kinds.ps count_line_kinds.r count_line.Post
count_line_one κs a x y s t p q = p ∙ sym q

put_line_one : (S : RattleType) (l : Laws S) (c : CodedGhosts S.Denot) (k : Dict) (g : Ghosts S.Denot) (d : Dict)
    → One 3 (put_line_kinds.ps S l) (put_line_kinds.r S l) (put_line.Post S l c k g d) (λ κs x. x) (λ κs s. g.shows s.1.1.1.1.1.0.now)
put_line_one S l c k g d κs a x y s t p q = (p.0 ∙ sym q.0, g.laws.one _ _ _ _ p.1 q.1)
