-- Document 01's example of cleaning, by computation ("The list", last paragraphs).
use mathlib.Core.Path.{◌≡◌, refl}
use Rattle.std.specs.Prelude.{None}
use Prim.Native.Nat.{◌≤◌}
use lib.ListN.{length}
use borrow.Author.Tests.{le-ltb}
use Rattle.ascii.specs.Ascii.{Bytes, text, all, any, filter_by, take_while, drop_while, last_of, join_head, split_at, prefixed, join_with, is_digit, is_upper, is_letter, lower_byte, lower, same, same_no_case, begins_with, begins_with_no_case, value_from, value, number16, decimal_up_to, decimal}
use Rattle.hosts.specs.Host.{labels, is_label_byte, is_shaped, is_label, is_host, is_address}
use Rattle.suffix.specs.Suffix.{is_blank as is_line_blank, content, is_skipped, read_rule, read_lines, read_table, name_matches, all_match, matches, most_labels, prevailing, suffix_size, public_suffix, private_labels, label_under, private_label}
use Rattle.origin.specs.Origin.{begins_https, is_port, read_port, is_host_byte, read_host, read_https, web_origin, is_key_hash_byte, is_android, is_ios, begins_native, is_native, is_facet, shown_port, normal_web, normal_of, normal_form, is_tail_byte, is_tail, https_url}
use Rattle.json_text.specs.Reader.{more, behind, ◌>>=◌, give, fail, end_of_text, peek, satisfy, one_byte, count_while, many, word, if_next◌then◌else◌, lead◌to◌then◌else◌, either_read, ◌or◌, mapped, ◌giving◌, as_written, verbatim, counted}
use Rattle.json_text.specs.Utf8.{multibyte_char, encode_utf8}
use Rattle.json_text.specs.Lexical.{is_blank, digits, int, frac, exp, read_number, unescaped, hex_value, hex_digit, hex4, low_after, code_point, escaped, read_char, read_chars, read_string}
use Rattle.json_values.specs.Json.{to_items, to_members, items, listed, read_member, read_array, read_object, value_of, read_value, read_text, value_read, read_json}
use Rattle.trusted_list.specs.TrustedList.{values_of, once, read_number16, read_version, strings, read_ids, read_listing, listings, read_listings, read_list, is_wanted, select, read_body, selected, list_refusal, entries}
use Rattle.entries.specs.AppId.{is_bad_app_id, app_label}
use Rattle.entries.specs.Causes.{labels_agree, is_other_label, cause, kept}
use Rattle.cleaning.specs.Clean.{quoted, render, cleaned_list, clean_refusal, cleaned, fitting, or_clean, clean}

abbrev appid : Bytes
appid = text "https://www.example.com/appID"

abbrev table : Bytes
table = text "com\n"

abbrev body : Bytes
body = text "{\"trustedFacets\":[{\"version\":{\"major\":1,\"minor\":0},\"ids\":[\"https://Fido.example.com/\",\"http://www.example.com\",\"ios:bundle-id:com.acme.app\",\"https://www.example.com:444\"]}]}"

abbrev printed : Bytes
printed = text "{\"trustedFacets\":[{\"version\":{\"major\":1,\"minor\":0},\"ids\":[\"https://fido.example.com\",\"ios:bundle-id:com.acme.app\",\"https://www.example.com:444\"]}]}"

-- opens every definition that the example needs
everything : Unit {0}
unfolding all any filter_by take_while drop_while last_of join_head split_at prefixed join_with is_digit is_upper is_letter lower_byte lower same same_no_case begins_with begins_with_no_case value_from value number16 decimal_up_to decimal labels is_label_byte is_shaped is_label is_host is_address is_line_blank content is_skipped read_rule read_lines read_table name_matches all_match matches most_labels prevailing suffix_size public_suffix private_labels label_under private_label begins_https is_port read_port is_host_byte read_host read_https web_origin is_key_hash_byte is_android is_ios begins_native is_native is_facet shown_port normal_web normal_of normal_form is_tail_byte is_tail https_url more behind ◌>>=◌ give fail end_of_text peek satisfy count_while many word if_next◌then◌else◌ lead◌to◌then◌else◌ either_read ◌or◌ mapped ◌giving◌ as_written verbatim counted multibyte_char encode_utf8 is_blank digits int frac exp read_number unescaped hex_value one_byte hex_digit hex4 low_after code_point escaped read_char read_chars read_string to_items to_members items listed read_member read_array read_object value_of read_value read_text value_read read_json values_of once read_number16 read_version strings read_ids read_listing listings read_listings read_list is_wanted select read_body selected list_refusal entries app_label labels_agree is_other_label cause kept is_bad_app_id quoted render cleaned_list clean_refusal
everything = tt

-- nothing is refused
pub example_taken : clean_refusal appid 1 0 body table ≡ None
unfolding everything
example_taken = refl

-- what is written
pub example_printed : cleaned_list appid 1 0 body table ≡ printed
unfolding everything
example_printed = refl

-- into any output that is long enough
pub example_cleaned : (before : Bytes) → length printed ≤ length before → clean appid 1 0 body table before ≡ cleaned printed
unfolding clean or_clean fitting
example_cleaned before h = rw (example_taken, example_printed, le-ltb (length before) (length printed) h)
