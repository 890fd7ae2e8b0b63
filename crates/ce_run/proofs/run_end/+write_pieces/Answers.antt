use Rattle.std.proofs.Common.{◌≡◌, ℕ, List, flat_map, take, Bor, sym, ap, subst, Option}
use Rattle.std.specs.Io.KnownBytes.{append_known}
use Rattle.ce_run.proofs.Pieces.{part_of_first, part_of_rest, on_err, map_err_fact}
use Rattle.ce_run.proofs.run_end.+write_pieces.Goals as goal

-- all the pieces together
abbrev joined : List (Bor (List ℕ)) → List ℕ
joined pieces = flat_map (λ piece. piece.now) pieces

-- a front part of this text was written
abbrev IsPart : Option (List ℕ) → Option (List ℕ) → List ℕ → Type 0
IsPart before now text = (n : ℕ) × (now ≡ append_known before (take n text))

pub returns-in_err-write_all-clause-part : goal.returns-in_err-write_all-clause-part
returns-in_err-write_all-clause-part g t c =
    let before = g.K.Sink.written c.args.sink.now in
    let now = g.K.Sink.written c.write_all.new.sink in
    let failed = c.in_err-write_all.ensures.part in
    on_err c.from_residual.result (IsPart before now (joined c.args.pieces.now))
    (subst (IsPart before now) (ap joined (sym c.in-Some.ensures.cases.0))
    (part_of_first before now c.in-Some.piece.now.now (joined c.in-Some.rest.now) failed.0 failed.1))

pub returns-clause-part : goal.returns-clause-part
returns-clause-part g t c =
    let before = g.K.Sink.written c.args.sink.now in
    let mid = g.K.Sink.written c.write_all.new.sink in
    let now = g.K.Sink.written c.write_pieces.new.sink in
    map_err_fact c.write_pieces.result (IsPart mid now (joined c.in-Some.rest.now)) (IsPart before now (joined c.args.pieces.now))
    (λ part. subst (IsPart before now) (ap joined (sym c.in-Some.ensures.cases.0))
    (part_of_rest before mid now c.in-Some.piece.now.now (joined c.in-Some.rest.now) part.0 c.in_ok-write_all.ensures.ok part.1))
    c.write_pieces.ensures.part
