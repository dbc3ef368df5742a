use Rattle.std.proofs.Common.{◌≡◌, true, false, codes, bytes_eq}
use Rattle.map_script.specs.Grammar.{verb_line}
use Rattle.map_script.proofs.PlaceLemmas.{token_found, comparison_told}
use Rattle.map_script.proofs.verbs.verb_line.Goals as goal

pub returns-then-eq-2 : goal.returns-then-eq-2
unfolding verb_line
returns-then-eq-2 c =
    let name = c.in_ok-name.name.now in
    let found = token_found c.args.tokens c.token.new.self name c.in_ok-name.ensures in
    let t1 : bytes_eq name (codes "lookup") ≡ false = comparison_told name c.eq.ensures c.as_slice.ensures c.if-eq.false in
    let t2 : bytes_eq name (codes "syslookup") ≡ true = comparison_told name c.eq-else-eq.ensures c.as_slice-else-eq.ensures c.if-eq-2.true in
    rw (found, t1, t2) c.lookup_places-then-eq-2.ensures

pub returns-then-eq-3 : goal.returns-then-eq-3
unfolding verb_line
returns-then-eq-3 c =
    let name = c.in_ok-name.name.now in
    let found = token_found c.args.tokens c.token.new.self name c.in_ok-name.ensures in
    let t1 : bytes_eq name (codes "lookup") ≡ false = comparison_told name c.eq.ensures c.as_slice.ensures c.if-eq.false in
    let t2 : bytes_eq name (codes "syslookup") ≡ false = comparison_told name c.eq-else-eq.ensures c.as_slice-else-eq.ensures c.if-eq-2.false in
    let t3 : bytes_eq name (codes "update") ≡ true = comparison_told name c.eq-else-eq-2.ensures c.as_slice-else-eq-2.ensures c.if-eq-3.true in
    rw (found, t1, t2, t3) c.update_places.ensures

pub returns-then-eq-4 : goal.returns-then-eq-4
unfolding verb_line
returns-then-eq-4 c =
    let name = c.in_ok-name.name.now in
    let found = token_found c.args.tokens c.token.new.self name c.in_ok-name.ensures in
    let t1 : bytes_eq name (codes "lookup") ≡ false = comparison_told name c.eq.ensures c.as_slice.ensures c.if-eq.false in
    let t2 : bytes_eq name (codes "syslookup") ≡ false = comparison_told name c.eq-else-eq.ensures c.as_slice-else-eq.ensures c.if-eq-2.false in
    let t3 : bytes_eq name (codes "update") ≡ false = comparison_told name c.eq-else-eq-2.ensures c.as_slice-else-eq-2.ensures c.if-eq-3.false in
    let t4 : bytes_eq name (codes "sysupdate") ≡ true = comparison_told name c.eq-else-eq-3.ensures c.as_slice-else-eq-3.ensures c.if-eq-4.true in
    rw (found, t1, t2, t3, t4) c.update_places-then-eq-4.ensures

pub returns-then-eq-8 : goal.returns-then-eq-8
unfolding verb_line
returns-then-eq-8 c =
    let name = c.in_ok-name.name.now in
    let found = token_found c.args.tokens c.token.new.self name c.in_ok-name.ensures in
    let t1 : bytes_eq name (codes "lookup") ≡ false = comparison_told name c.eq.ensures c.as_slice.ensures c.if-eq.false in
    let t2 : bytes_eq name (codes "syslookup") ≡ false = comparison_told name c.eq-else-eq.ensures c.as_slice-else-eq.ensures c.if-eq-2.false in
    let t3 : bytes_eq name (codes "update") ≡ false = comparison_told name c.eq-else-eq-2.ensures c.as_slice-else-eq-2.ensures c.if-eq-3.false in
    let t4 : bytes_eq name (codes "sysupdate") ≡ false = comparison_told name c.eq-else-eq-3.ensures c.as_slice-else-eq-3.ensures c.if-eq-4.false in
    let t5 : bytes_eq name (codes "delete") ≡ false = comparison_told name c.eq-else-eq-4.ensures c.as_slice-else-eq-4.ensures c.if-eq-5.false in
    let t6 : bytes_eq name (codes "take") ≡ false = comparison_told name c.eq-else-eq-5.ensures c.as_slice-else-eq-5.ensures c.if-eq-6.false in
    let t7 : bytes_eq name (codes "next") ≡ false = comparison_told name c.eq-else-eq-6.ensures c.as_slice-else-eq-6.ensures c.if-eq-7.false in
    let t8 : bytes_eq name (codes "batch_lookup") ≡ true = comparison_told name c.eq-else-eq-7.ensures c.as_slice-else-eq-7.ensures c.if-eq-8.true in
    rw (found, t1, t2, t3, t4, t5, t6, t7, t8) c.batch_read_places.ensures

pub returns-then-eq-9 : goal.returns-then-eq-9
unfolding verb_line
returns-then-eq-9 c =
    let name = c.in_ok-name.name.now in
    let found = token_found c.args.tokens c.token.new.self name c.in_ok-name.ensures in
    let t1 : bytes_eq name (codes "lookup") ≡ false = comparison_told name c.eq.ensures c.as_slice.ensures c.if-eq.false in
    let t2 : bytes_eq name (codes "syslookup") ≡ false = comparison_told name c.eq-else-eq.ensures c.as_slice-else-eq.ensures c.if-eq-2.false in
    let t3 : bytes_eq name (codes "update") ≡ false = comparison_told name c.eq-else-eq-2.ensures c.as_slice-else-eq-2.ensures c.if-eq-3.false in
    let t4 : bytes_eq name (codes "sysupdate") ≡ false = comparison_told name c.eq-else-eq-3.ensures c.as_slice-else-eq-3.ensures c.if-eq-4.false in
    let t5 : bytes_eq name (codes "delete") ≡ false = comparison_told name c.eq-else-eq-4.ensures c.as_slice-else-eq-4.ensures c.if-eq-5.false in
    let t6 : bytes_eq name (codes "take") ≡ false = comparison_told name c.eq-else-eq-5.ensures c.as_slice-else-eq-5.ensures c.if-eq-6.false in
    let t7 : bytes_eq name (codes "next") ≡ false = comparison_told name c.eq-else-eq-6.ensures c.as_slice-else-eq-6.ensures c.if-eq-7.false in
    let t8 : bytes_eq name (codes "batch_lookup") ≡ false = comparison_told name c.eq-else-eq-7.ensures c.as_slice-else-eq-7.ensures c.if-eq-8.false in
    let t9 : bytes_eq name (codes "batch_take") ≡ true = comparison_told name c.eq-else-eq-8.ensures c.as_slice-else-eq-8.ensures c.if-eq-9.true in
    rw (found, t1, t2, t3, t4, t5, t6, t7, t8, t9) c.batch_read_places-then-eq-9.ensures

pub returns-then-eq-10 : goal.returns-then-eq-10
unfolding verb_line
returns-then-eq-10 c =
    let name = c.in_ok-name.name.now in
    let found = token_found c.args.tokens c.token.new.self name c.in_ok-name.ensures in
    let t1 : bytes_eq name (codes "lookup") ≡ false = comparison_told name c.eq.ensures c.as_slice.ensures c.if-eq.false in
    let t2 : bytes_eq name (codes "syslookup") ≡ false = comparison_told name c.eq-else-eq.ensures c.as_slice-else-eq.ensures c.if-eq-2.false in
    let t3 : bytes_eq name (codes "update") ≡ false = comparison_told name c.eq-else-eq-2.ensures c.as_slice-else-eq-2.ensures c.if-eq-3.false in
    let t4 : bytes_eq name (codes "sysupdate") ≡ false = comparison_told name c.eq-else-eq-3.ensures c.as_slice-else-eq-3.ensures c.if-eq-4.false in
    let t5 : bytes_eq name (codes "delete") ≡ false = comparison_told name c.eq-else-eq-4.ensures c.as_slice-else-eq-4.ensures c.if-eq-5.false in
    let t6 : bytes_eq name (codes "take") ≡ false = comparison_told name c.eq-else-eq-5.ensures c.as_slice-else-eq-5.ensures c.if-eq-6.false in
    let t7 : bytes_eq name (codes "next") ≡ false = comparison_told name c.eq-else-eq-6.ensures c.as_slice-else-eq-6.ensures c.if-eq-7.false in
    let t8 : bytes_eq name (codes "batch_lookup") ≡ false = comparison_told name c.eq-else-eq-7.ensures c.as_slice-else-eq-7.ensures c.if-eq-8.false in
    let t9 : bytes_eq name (codes "batch_take") ≡ false = comparison_told name c.eq-else-eq-8.ensures c.as_slice-else-eq-8.ensures c.if-eq-9.false in
    let t10 : bytes_eq name (codes "batch_update") ≡ true = comparison_told name c.eq-else-eq-9.ensures c.as_slice-else-eq-9.ensures c.if-eq-10.true in
    rw (found, t1, t2, t3, t4, t5, t6, t7, t8, t9, t10) c.batch_update_places.ensures

pub returns-then-eq-11 : goal.returns-then-eq-11
unfolding verb_line
returns-then-eq-11 c =
    let name = c.in_ok-name.name.now in
    let found = token_found c.args.tokens c.token.new.self name c.in_ok-name.ensures in
    let t1 : bytes_eq name (codes "lookup") ≡ false = comparison_told name c.eq.ensures c.as_slice.ensures c.if-eq.false in
    let t2 : bytes_eq name (codes "syslookup") ≡ false = comparison_told name c.eq-else-eq.ensures c.as_slice-else-eq.ensures c.if-eq-2.false in
    let t3 : bytes_eq name (codes "update") ≡ false = comparison_told name c.eq-else-eq-2.ensures c.as_slice-else-eq-2.ensures c.if-eq-3.false in
    let t4 : bytes_eq name (codes "sysupdate") ≡ false = comparison_told name c.eq-else-eq-3.ensures c.as_slice-else-eq-3.ensures c.if-eq-4.false in
    let t5 : bytes_eq name (codes "delete") ≡ false = comparison_told name c.eq-else-eq-4.ensures c.as_slice-else-eq-4.ensures c.if-eq-5.false in
    let t6 : bytes_eq name (codes "take") ≡ false = comparison_told name c.eq-else-eq-5.ensures c.as_slice-else-eq-5.ensures c.if-eq-6.false in
    let t7 : bytes_eq name (codes "next") ≡ false = comparison_told name c.eq-else-eq-6.ensures c.as_slice-else-eq-6.ensures c.if-eq-7.false in
    let t8 : bytes_eq name (codes "batch_lookup") ≡ false = comparison_told name c.eq-else-eq-7.ensures c.as_slice-else-eq-7.ensures c.if-eq-8.false in
    let t9 : bytes_eq name (codes "batch_take") ≡ false = comparison_told name c.eq-else-eq-8.ensures c.as_slice-else-eq-8.ensures c.if-eq-9.false in
    let t10 : bytes_eq name (codes "batch_update") ≡ false = comparison_told name c.eq-else-eq-9.ensures c.as_slice-else-eq-9.ensures c.if-eq-10.false in
    let t11 : bytes_eq name (codes "batch_delete") ≡ true = comparison_told name c.eq-else-eq-10.ensures c.as_slice-else-eq-10.ensures c.if-eq-11.true in
    rw (found, t1, t2, t3, t4, t5, t6, t7, t8, t9, t10, t11) c.batch_delete_places.ensures
