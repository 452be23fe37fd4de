use Rattle.certificate.specs.Permits.{certificate_of}
use Rattle.certificate.proofs.Laws.{six_written}
use Rattle.certificate.proofs.writing.fields.Goals as goal

pub returns : goal.returns
returns c =
    six_written (certificate_of c.args.c.now) c.from.result c.from.ensures c.new-out.ensures.items
    c.in_ok-append_number.ensures c.in_ok-append_number-2.ensures c.in_ok-append_number-3.ensures
    c.in_ok-append_number-4.ensures c.in_ok-append_number-5.ensures c.in_ok-append_number-6.ensures
