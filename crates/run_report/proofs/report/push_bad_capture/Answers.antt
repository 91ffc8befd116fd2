use Rattle.run_report.proofs.report.push_bad_capture.Goals as goal

pub returns : goal.returns
returns c = cc (c.in_ok-words.ensures.ok, c.in_ok-fault.ensures, c.in_ok-push_str.ensures.bytes)
