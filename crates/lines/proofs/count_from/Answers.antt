-- `lines::count_from` meets its contract.
use Rattle.lines.proofs.Counting.{large_length, large_digits, few_length, few_digits, front_fits, front_length, front_digits}
use Rattle.lines.proofs.count_from.Goals as goal

pub returns-then-n-ge100000000 : goal.returns-then-n-ge100000000
returns-then-n-ge100000000 c = search (large_length, large_digits)

pub returns-then-digits-lt8 : goal.returns-then-digits-lt8
returns-then-digits-lt8 c = search (few_length, few_digits)

pub write_decimal-requires : goal.write_decimal-requires
write_decimal-requires c = search front_fits

pub returns : goal.returns
returns c = search (front_length, front_digits)
