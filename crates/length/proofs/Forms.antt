-- What is read at the front of bytes is the length that is written there.
use Rattle.std.proofs.Common.{rules}
use Rattle.length.specs.Lengths.{ReadsLength}

pub reads_length : ReadsLength
reads_length b h = search rules
