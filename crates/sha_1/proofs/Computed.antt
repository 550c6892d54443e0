-- The examples compute.
use Rattle.std.proofs.Common.{refl}
use Rattle.lists.specs.Below.{table}
use Rattle.lists.specs.Bytes.{part, zeros}
use Rattle.lists.specs.Numbers.{big, big_at}
use Rattle.blocks.specs.Blocks.{closing, padded, block, after, folded}
use Rattle.rounds.specs.Rounds.{next_word, grown, schedule, mix, constant, stepped, round, rounds, sums, compress}
use Rattle.sha_1.specs.Sha1.{first, bytes_of, sha1}
use Rattle.sha_1.specs.Examples.{Examples}

pub examples : Examples
unfolding table part zeros big big_at closing padded block after folded next_word grown schedule mix constant stepped round rounds sums compress first bytes_of sha1
examples = record { abc = refl; two = refl }
