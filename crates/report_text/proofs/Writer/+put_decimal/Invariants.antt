-- `report_text::Writer::put_decimal` ends: its measure is the number.
use Rattle.report_text.proofs.Writer.+put_decimal.Given as goal

abbrev pub decreases-put_decimal : goal.decreases-put_decimal
decreases-put_decimal l = l.n
