-- The cases of specs/Cases, specs/CalleeCases, specs/MarkCases, specs/StepCases, specs/SureCases, specs/YieldCases, specs/WritingCases and specs/TableCases,
-- each list as one checked list, and the table that document 01's groups print. Assumes nothing.
use mathlib.Core.Path.{refl}
use mathlib.Core.List.{flat_map}
use Rattle.rules.specs.Ops.{in_groups}
use Rattle.rules.specs.Reading.{broken_at, take_while, drop_while, constants_of, extras_of, chunks_of}
use Rattle.rules.specs.Rows.{parse, first_of, first_backward, stray_break}
use Rattle.rules.specs.Count.{last_set, array_length, never_sets}
use Rattle.rules.specs.Sure.{holds, in_part, array_stops, all_in_row}
use Rattle.rules.specs.Cycles.{row_cost}
use Rattle.rules.specs.Stack.{row_height}
use Rattle.rules.specs.Order.{member, callees_in, visit_each, visit, up_from}
use Rattle.rules.specs.Sheet.{lines_in, tray_numbers}
use Rattle.rules.specs.Paths.{settle, path}
use Rattle.rules.specs.Yields.{row_cover, depth_of, ends_at, gives_up}
use Rattle.rules.specs.Text.{words_of, bytes_in, digits, lines_text}
use Rattle.rules.specs.Writing.{trimmed, every, held_constants, held_ops, held}
use Rattle.rules.specs.Table.{lines_of, fields_of, number_from, numbers_of, overlaps_any, in_some, all_kinds, groups_from}
use Rattle.rules.specs.TableClaims.{unended, TablePrinted}
use Rattle.rules.specs.Cases.{AllHold, documented, settled, levelled, strayed}
use Rattle.rules.specs.CalleeCases.{shared}
use Rattle.rules.specs.MarkCases.{marked}
use Rattle.rules.specs.StepCases.{stepped}
use Rattle.rules.specs.SureCases.{unsure}
use Rattle.rules.specs.YieldCases.{yielded}
use Rattle.rules.specs.WritingCases.{shelved}
use Rattle.rules.specs.TableCases.{grouped}

-- document 01's P cases
pub documented_hold : AllHold documented
unfolding flat_map in_groups broken_at take_while drop_while constants_of extras_of chunks_of parse first_of first_backward stray_break last_set array_length never_sets holds in_part array_stops all_in_row row_cost row_height member callees_in visit_each visit up_from lines_in words_of digits lines_text bytes_in
documented_hold = (refl, (refl, (refl, (refl, (refl, (refl, (refl, (refl, (refl, (refl, (refl, (refl, (refl, (refl, (refl, tt)))))))))))))))

-- what was settled where its words leave a choice
pub settled_hold : AllHold settled
unfolding flat_map in_groups broken_at take_while drop_while constants_of extras_of chunks_of parse first_of first_backward stray_break last_set array_length never_sets holds in_part array_stops all_in_row row_cost row_height member callees_in visit_each visit up_from lines_in words_of digits lines_text bytes_in
settled_hold = (refl, (refl, (refl, (refl, (refl, (refl, (refl, (refl, (refl, (refl, (refl, (refl, (refl, (refl, (refl, (refl, (refl, (refl, (refl, tt)))))))))))))))))))

-- the levels of nesting
pub levelled_hold : AllHold levelled
unfolding flat_map in_groups broken_at take_while drop_while constants_of extras_of chunks_of parse first_backward stray_break row_cost row_height
levelled_hold = (refl, (refl, (refl, (refl, (refl, (refl, (refl, (refl, tt))))))))

-- breaks and the Loops around them
pub strayed_hold : AllHold strayed
unfolding flat_map in_groups broken_at take_while drop_while constants_of extras_of chunks_of parse first_of first_backward stray_break last_set never_sets row_cost row_height member callees_in visit_each visit up_from lines_in
strayed_hold = (refl, (refl, (refl, (refl, (refl, (refl, (refl, (refl, (refl, (refl, (refl, (refl, (refl, (refl, (refl, (refl, (refl, (refl, (refl, (refl, tt))))))))))))))))))))

-- charged callees
pub shared_hold : AllHold shared
unfolding flat_map in_groups broken_at take_while drop_while constants_of extras_of chunks_of parse first_of first_backward stray_break last_set array_length never_sets holds in_part array_stops all_in_row row_cost row_height member callees_in visit_each visit up_from lines_in words_of digits lines_text bytes_in
shared_hold = (refl, (refl, (refl, (refl, (refl, (refl, (refl, (refl, (refl, (refl, (refl, (refl, (refl, tt)))))))))))))

-- which figures are marked
pub marked_hold : AllHold marked
unfolding flat_map in_groups broken_at take_while drop_while constants_of extras_of chunks_of parse first_of first_backward stray_break last_set array_length never_sets holds in_part array_stops all_in_row row_cost row_height member callees_in visit_each visit up_from lines_in tray_numbers words_of digits lines_text bytes_in
marked_hold = (refl, (refl, (refl, (refl, (refl, (refl, (refl, (refl, (refl, (refl, (refl, (refl, (refl, (refl, (refl, (refl, (refl, (refl, (refl, (refl, (refl, (refl, (refl, tt)))))))))))))))))))))))

-- loops that step by other numbers than 1
pub stepped_hold : AllHold stepped
unfolding flat_map in_groups broken_at take_while drop_while constants_of extras_of chunks_of parse first_of first_backward stray_break last_set array_length never_sets holds in_part array_stops all_in_row row_cost row_height member callees_in visit_each visit up_from lines_in words_of digits lines_text bytes_in
stepped_hold = (refl, (refl, (refl, (refl, (refl, (refl, (refl, (refl, (refl, (refl, (refl, (refl, (refl, (refl, (refl, (refl, (refl, (refl, (refl, (refl, (refl, (refl, (refl, (refl, (refl, (refl, (refl, (refl, (refl, tt)))))))))))))))))))))))))))))

-- which counts are sure
pub unsure_hold : AllHold unsure
unfolding flat_map in_groups broken_at take_while drop_while constants_of extras_of chunks_of parse first_of first_backward stray_break last_set array_length never_sets holds in_part array_stops all_in_row row_cost row_height member callees_in visit_each visit up_from lines_in
unsure_hold = (refl, (refl, (refl, (refl, (refl, (refl, (refl, (refl, (refl, (refl, (refl, (refl, (refl, (refl, (refl, (refl, (refl, (refl, (refl, (refl, (refl, (refl, (refl, (refl, ((refl, refl, refl, refl), ((refl, refl, refl, refl), ((refl, refl, refl, refl), ((refl, refl, refl, refl), ((refl, refl, refl, refl), (refl, (refl, (refl, (refl, (refl, (refl, (refl, (refl, (refl, (refl, (refl, (refl, (refl, (refl, (refl, (refl, (refl, (refl, ((tt, tt), ((tt, tt), ((tt, tt), tt))))))))))))))))))))))))))))))))))))))))))))))))))

-- yield coverage
pub yielded_hold : AllHold yielded
unfolding flat_map in_groups broken_at take_while drop_while constants_of extras_of chunks_of parse first_of first_backward stray_break last_set never_sets row_cost member callees_in visit_each visit up_from settle path row_cover depth_of ends_at gives_up
yielded_hold = (refl, (refl, (refl, (refl, (refl, (refl, (refl, (refl, (refl, (refl, (refl, (refl, (refl, (refl, (refl, (refl, (refl, (refl, (refl, (refl, (refl, (refl, ((refl, refl), ((refl, refl), ((refl, refl), (refl, ((refl, refl), (refl, ((refl, refl, refl), ((refl, refl), (refl, (refl, (refl, (refl, (refl, (refl, (refl, (refl, (refl, (refl, ((refl, refl), (refl, ((refl, refl), (refl, (refl, (refl, (refl, (refl, (refl, (refl, (refl, (refl, (refl, (refl, ((refl, refl), (refl, (refl, ((refl, refl), (refl, tt)))))))))))))))))))))))))))))))))))))))))))))))))))))))))))

-- the writer
pub shelved_hold : AllHold shelved
unfolding flat_map in_groups broken_at take_while drop_while constants_of extras_of chunks_of words_of digits bytes_in trimmed every held_constants held_ops held
shelved_hold = (refl, (refl, (refl, (refl, (refl, (refl, (refl, (refl, (refl, (refl, (refl, (refl, (refl, (refl, (refl, (refl, (refl, (refl, (refl, (refl, (refl, (refl, (refl, (refl, (refl, (refl, (refl, (refl, (refl, (refl, (refl, (refl, (refl, (refl, (refl, tt)))))))))))))))))))))))))))))))))))

-- the op table
pub grouped_hold : AllHold grouped
unfolding flat_map in_groups up_from digits lines_of fields_of number_from numbers_of overlaps_any in_some all_kinds groups_from unended
grouped_hold = (refl, (refl, (refl, (refl, (refl, (refl, (refl, (refl, (refl, (refl, (refl, (refl, (refl, (refl, (refl, (refl, (refl, (refl, (refl, (refl, (refl, (refl, (refl, (refl, (refl, (refl, (refl, (refl, (refl, (refl, (refl, (refl, (refl, (refl, (refl, (refl, (refl, (refl, (refl, (refl, tt))))))))))))))))))))))))))))))))))))))))

-- the table of document 01, all 66 rows in one test
pub table-printed : TablePrinted
unfolding flat_map in_groups up_from digits lines_of fields_of number_from numbers_of overlaps_any in_some all_kinds groups_from
table-printed = refl
