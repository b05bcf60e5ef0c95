use Rattle.std.proofs.Common.{rules}
use Rattle.gcr.proofs.Values.{four_coded}
use Rattle.gcr.proofs.group.decode_group.Goals as goal

pub returns-in_err-decode : goal.returns-in_err-decode
returns-in_err-decode c = rw (four_coded c.ten_bit_codes.result _ c.ten_bit_codes.ensures) (search rules)

pub returns-in_err-decode-2 : goal.returns-in_err-decode-2
returns-in_err-decode-2 c = rw (four_coded c.ten_bit_codes.result _ c.ten_bit_codes.ensures) (search rules)

pub returns-in_err-decode-3 : goal.returns-in_err-decode-3
returns-in_err-decode-3 c = rw (four_coded c.ten_bit_codes.result _ c.ten_bit_codes.ensures) (search rules)

pub returns-in_err-decode-4 : goal.returns-in_err-decode-4
returns-in_err-decode-4 c = rw (four_coded c.ten_bit_codes.result _ c.ten_bit_codes.ensures) (search rules)

pub returns : goal.returns
returns c = rw (four_coded c.ten_bit_codes.result _ c.ten_bit_codes.ensures) (search rules)
