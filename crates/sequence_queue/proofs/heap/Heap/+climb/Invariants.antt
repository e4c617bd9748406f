use Rattle.sequence_queue.proofs.heap.Heap.+climb.Given as goal

abbrev pub decreases-climb : goal.decreases-climb
decreases-climb l = l.place
