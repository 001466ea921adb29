-- The loop keeps that the pass over the records that are left, from what is known so far, is the whole pass.
use Rattle.std.proofs.Common.{◌≡◌, None, Some, drop}
use Rattle.lent_rules.specs.Scan.{FoundSmall, good_scan, scan_from}
use Rattle.lent_rules.proofs.scan_all.Given as goal

abbrev pub invariant-loop-r : goal.invariant-loop-r
invariant-loop-r l = record {
  passed : scan_from l.area l.word (Some l.s) (drop l.r-index l.rules) ≡ scan_from l.area l.word (Some (good_scan 0 None)) l.rules;
  small : FoundSmall l.s.found;
}
