-- Dighanjol's promise. That what is called keeps to these definitions stands in its contracts: `Judged`, `Located`, `Answers`.
use Rattle.format.specs.Promise.{OneReadingAt, SameFrontAt, WrittenOnceAt, PartOfBytes}
use Rattle.element.specs.Limits.{deepest, longest}
use Rattle.trust.specs.Promise.{ChainOrNone, MoreKeeps}
use Rattle.shortest.specs.Laws.{MoreAnswers}

-- the promise, of all bytes at the reader's limits and of all pools of certificates
pub record Promise : Type 0 where
  -- bytes read as exactly one row of elements, or as none
  pub one_reading : OneReadingAt deepest longest
  -- no element is the front of another
  pub same_front : SameFrontAt deepest longest
  -- what is written of a row reads as that row, and no other bytes do; of all spellings of a row only the written one reads
  pub written_once : WrittenOnceAt deepest longest
  -- an element by its path is a part of the bytes
  pub part_of_bytes : PartOfBytes
  -- from each certificate there is a shortest chain up to a trust anchor, or no chain at all
  pub chain_or_none : ChainOrNone
  -- more certificates, valid signatures or trust anchors take no chain away
  pub more_keeps : MoreKeeps
  -- where a chain was answered, one that is no longer is answered among more, unless that is rejected
  pub more_answers : MoreAnswers
