use Rattle.labels.proofs.reading.fewest.place_of.Given as goal

abbrev pub decreases-chain : goal.decreases-chain
decreases-chain l = l.place
