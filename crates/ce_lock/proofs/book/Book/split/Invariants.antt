use Rattle.ce_lock.proofs.book.Book.split.Given as goal

abbrev pub ghosts-worker_seat : goal.ghosts-worker_seat
ghosts-worker_seat g a = record { actor = a.actor }
