use Rattle.std.proofs.Common.{arith}
use Rattle.element.proofs.Entries.{span_within, piece_from}
use Rattle.element.proofs.index.Index.piece.Goals as goal

pub returns-in_err-get : goal.returns-in_err-get
returns-in_err-get c = λ h. absurd (omega (arith, c.in_err-get.ensures.lookup.0, span_within _ _ _ (c.in_ok-at.ensures c.args.bytes.now h)))

pub returns : goal.returns
returns c = λ h. piece_from _ _ _ (c.in_ok-at.ensures c.args.bytes.now h) _ c.in_ok-get.ensures.lookup.0.2 _ c.get-2.ensures.lookup.0
