use Rattle.trials.proofs.bytes.+is_row.Given as goal

abbrev pub decreases-is_row : goal.decreases-is_row
decreases-is_row l = l.levels
