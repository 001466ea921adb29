-- Condition 2 first; where the headers agree, the verdict is that of the lines.
use Rattle.std.proofs.Common.{rules, ◌≡◌, ◌∙◌}
use Rattle.layout.specs.Sheets.{sheet_of}
use Rattle.layout.specs.Tables.{table_of}
use Rattle.layout.proofs.JudgedLaws.{table_order}
use Rattle.chains.specs.Answers.{verdict_as}
use Rattle.checking.specs.Check.{lines_verdict}
use Rattle.checking.proofs.CallLaws.{headers_no, headers_yes}
use Rattle.checking.proofs.calls.check_judged.Goals as goal

pub returns-then-not-headers_agree : goal.returns-then-not-headers_agree
returns-then-not-headers_agree c = search (rules, headers_no)

pub returns : goal.returns
returns c =
    let t = c.args.table in
    let s = sheet_of c.args.sheet.bytes.now in
    let v : verdict_as c.check_lines.result ≡ lines_verdict (table_of t.bytes.now).order s.equations (table_of t.bytes.now).lines =
    c.check_lines.ensures ∙ rw (c.equations.ensures.equations, c.steps.ensures.steps, c.lines.ensures.lines, table_order t.bytes.now t.header t.read) in
    search (rules, headers_yes)
