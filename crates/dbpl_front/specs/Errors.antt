-- The rules by which the scanner and the parser refuse a text: L1, and L2 or L3.
use Rattle.dbpl_front.specs.declared.front_err.FrontErr.{FrontErr}
use Rattle.dbpl_front.specs.declared.front_err.FrontErr.TheVariants as errors
use Rattle.dbpl_parse_expr.specs.declared.parse_err.ParseErr.{ParseErr}
use Rattle.dbpl_parse_expr.specs.declared.parse_err.ParseErr.TheVariants as syntax
use Rattle.dbpl_scan.specs.declared.scan_err.ScanErr.{ScanErr}
use Rattle.dbpl_scan.specs.declared.scan_err.ScanErr.TheVariants as scans

abbrev pub of_scan : ScanErr → FrontErr
of_scan (scans.Bad place) = errors.Refused (record { place = place; rule = 101 })
of_scan scans.Memory = errors.Memory

abbrev pub of_parse : ParseErr → FrontErr
of_parse (syntax.Syntax place) = errors.Refused (record { place = place; rule = 102 })
of_parse (syntax.Deep place) = errors.Refused (record { place = place; rule = 103 })
of_parse syntax.Memory = errors.Memory
