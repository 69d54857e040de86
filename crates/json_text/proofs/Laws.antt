-- The sets of laws that answer needs, for `search number_laws` and so on.
use borrow.Author.Rules.{rules}
use Rattle.json_text.proofs.Steps.{fits_next, took, left}
use Rattle.json_text.proofs.NumberSteps.{digits_gone, digits_low, digits_high, digits_some, int_gone, int_zero, int_low, int_high, int_some, frac_none, frac_some, sign_gone, sign_some, sign_none, minus_some, minus_none, exp_gone, exp_none, exp_some, number_bad, number_some}
use Rattle.json_text.proofs.Plain.{seq_bad, seq_on, range_gone, range_low, range_in, range_high, wide_gone, wide_low, wide_c2, wide_e0, wide_e1, wide_ed, wide_ee, wide_f0, wide_f1, wide_f4, wide_high, plain_gone, plain_low, plain_quote, plain_backslash, plain_20, plain_23, plain_5d, plain_wide}
use Rattle.json_text.proofs.EscapeSteps.{digit_past, digit_in, fits_digit, hex4_first, hex4_second, hex4_third, hex4_fourth, hex4_all, code_bad, code_low, code_high, code_lone, pair_bare, pair_bad, pair_under, pair_above, pair_is, escape_quote, escape_backslash, escape_slash, escape_b, escape_f, escape_n, escape_r, escape_t, escape_u, escape_none, escape_other}
use Rattle.json_text.proofs.Chars.{char_bad, char_at, char_two, char_other, spells_starts, spells_end, spells_bad, spells_less, spells_more, string_bad, string_some}
use Rattle.json_text.proofs.Holding.{held_over, held_all, holds_none, hold_over, hold_all, put_over, put_full, put_one, part_starts, part_end, part_more, code_one, code_two, code_three, code_four, held_wrong, held_code, held_no, held_plain, decode_wrong, decode_starts, decode_end, decode_bad, decode_less, decode_more, name_wrong}
use Rattle.json_text.proofs.PlainSteps.{ascii_none, ascii_string, plain_none, plain_found}

-- for the cheap needs: sums that fit, places that are there
pub ruleset fits = (fits_next, took, left, rules)

pub ruleset hex_fits = (fits_digit, fits)

pub ruleset number_laws = (digits_gone, digits_low, digits_high, digits_some, int_gone, int_zero, int_low, int_high, int_some, frac_none, frac_some, sign_gone, sign_some, sign_none, minus_some, minus_none, exp_gone, exp_none, exp_some, number_bad, number_some, fits)

pub ruleset unescaped_laws = (seq_bad, seq_on, range_gone, range_low, range_in, range_high, wide_gone, wide_low, wide_c2, wide_e0, wide_e1, wide_ed, wide_ee, wide_f0, wide_f1, wide_f4, wide_high, plain_gone, plain_low, plain_quote, plain_backslash, plain_20, plain_23, plain_5d, plain_wide, fits)

pub ruleset escape_laws = (hex4_first, hex4_second, hex4_third, hex4_fourth, hex4_all, code_bad, code_low, code_high, code_lone, pair_bare, pair_bad, pair_under, pair_above, pair_is, escape_quote, escape_backslash, escape_slash, escape_b, escape_f, escape_n, escape_r, escape_t, escape_u, escape_none, escape_other, hex_fits)

pub ruleset hex_at_laws = (digit_past, digit_in, took, left)

pub ruleset ascii_laws = (ascii_string, ascii_none, fits)

pub ruleset string_laws = (char_bad, char_at, char_two, char_other, spells_starts, spells_end, spells_bad, spells_less, spells_more, string_bad, string_some, fits)

pub ruleset plain_laws = (plain_none, plain_found, fits)

pub ruleset decoding_laws = (held_over, held_all, holds_none, hold_over, hold_all, put_over, put_full, put_one, part_starts, part_end, part_more, code_one, code_two, code_three, code_four, held_wrong, held_code, held_no, held_plain, decode_wrong, decode_starts, decode_end, decode_bad, decode_less, decode_more, name_wrong, fits)
