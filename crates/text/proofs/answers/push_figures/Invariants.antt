use Rattle.std.proofs.Common.{◌≡◌, ◌++◌, take, vec_items}
use Rattle.std.specs.List.{flat_map}
use Rattle.text.specs.Texts.{space_before}
use Rattle.text.proofs.answers.push_figures.Given as goal

abbrev pub invariant-loop-figure : goal.invariant-loop-figure
invariant-loop-figure g l = vec_items l.out ≡ vec_items l.initial.out ++ flat_map (space_before g.F.Figure.text) (take l.figure-index l.rest)
