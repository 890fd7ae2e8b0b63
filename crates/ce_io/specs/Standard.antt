-- What contracts see of the adapters over readers and writers of std.
use Rattle.std.specs.Prelude.{ℕ, List, Option}
use Rattle.ce_io.specs.declared.standard.StdSource.{StdSource}
use Rattle.ce_io.specs.declared.standard.StdSink.{StdSink}

-- the bytes that the reader of a source has left, where it tells them
abbrev pub reader_left : {R : Type 0} → (R → Option (List ℕ)) → StdSource R → Option (List ℕ)
reader_left remaining source = remaining source.inner

-- the bytes that the writer of a sink holds, where it tells them
abbrev pub writer_bytes : {W : Type 0} → (W → Option (List ℕ)) → StdSink W → Option (List ℕ)
writer_bytes contents sink = contents sink.inner
