use Rattle.fx_turn.proofs.lock.Turn.split.Given as goal

abbrev pub ghosts-cut : goal.ghosts-cut
ghosts-cut g a = record { who = a.who }
