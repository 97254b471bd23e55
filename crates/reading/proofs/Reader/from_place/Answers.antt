-- `reading::Reader::from_place` meets its contract.
use Prim.Native.Nat.{◌/◌}
use Rattle.std.proofs.lemmas.List.{take_rest}
use Rattle.reading.proofs.Steps.{from_byte}
use Rattle.reading.proofs.Reader.from_place.Goals as goal

pub returns : goal.returns
returns c =
    let a = c.args in
    rw (← from_byte a.bytes.now a.at, take_rest a.bytes.now (a.at.bit / 8))
