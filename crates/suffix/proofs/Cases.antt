-- The eleven label cases hold, by computation. Assumes nothing.
use mathlib.Core.Path.{refl}
use Rattle.ascii.specs.Ascii.{all, filter_by, take_while, last_of, join_head, split_at, prefixed, join_with, is_digit, is_upper, is_letter, lower_byte, lower, same, same_no_case, begins_with}
use Rattle.hosts.specs.Host.{labels, is_label_byte, is_shaped, is_label, is_host, is_address}
use Rattle.suffix.specs.Suffix.{is_blank, content, is_skipped, read_rule, read_lines, read_table, name_matches, all_match, matches, most_labels, prevailing, suffix_size, public_suffix, private_labels, label_under, private_label}
use Rattle.suffix.specs.Cases.{LabelCases}

pub label_cases_lem : LabelCases
unfolding all filter_by take_while last_of join_head split_at prefixed join_with is_digit is_upper is_letter lower_byte lower same same_no_case begins_with labels is_label_byte is_shaped is_label is_host is_blank content is_skipped read_rule read_lines read_table name_matches all_match matches most_labels prevailing suffix_size public_suffix is_address private_labels label_under private_label
label_cases_lem = refl
