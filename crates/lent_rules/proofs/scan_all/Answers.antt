-- A record passes the scan on or breaks it off; after the last one the scan is the whole pass.
use Rattle.std.proofs.Common.{rules}
use Rattle.lent_rules.specs.Scan.{scan_from}
use Rattle.lent_rules.proofs.ScanLaws.{scan_on, scan_off, scan_end}
use Rattle.lent_rules.proofs.scan_all.Goals as goal

pub returns-in_err-s : goal.returns-in_err-s
unfolding scan_from
returns-in_err-s c = (search (rules, scan_off, c.in_err-s.ensures), search rules)

pub loop-r-preserved : goal.loop-r-preserved
unfolding scan_from
loop-r-preserved c = record { passed = search (rules, scan_on, c.in_ok-s.ensures); small = search (rules, c.in_ok-s.ensures) }

pub returns : goal.returns
returns c = (search (rules, scan_end), search rules)
