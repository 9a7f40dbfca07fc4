use Rattle.std.proofs.Common.{◌≡◌, ◌<◌, ◌≤◌, arith, take_all, ◌++◌, ◌∷◌, ap, sym, ◌∙◌, length, map, get_or, [], subst}
use Rattle.std.proofs.Math.ListN.{length-map}
use Rattle.sx_tree.specs.Names.{AreDistinct}
use Rattle.sx_tree.specs.Value.{value_of, fields_of}
use Rattle.sx_model.specs.Canonical.{comma_before, string_text, text}
use Rattle.sx_model.specs.Limits.{MembersKeepLimits}
use Rattle.sx_json.proofs.Writing.{elements_text-more, members_text-more, member_at, regrouped, regrouped_member}
use Rattle.sx_json.proofs.Growing.{elements_keep-more, members_keep-more, names_in-fields_of}
use Rattle.sx_json.proofs.writer.+write.Goals as goal

pub write_elements-loop-place-preserved : goal.write_elements-loop-place-preserved
write_elements-loop-place-preserved t c =
    let place = c.loop-place.place in
    let value = c.index-values-place.result in
    record {
      written = c.in_ok-write_value.ensures.written
          ∙ ap (λ o. o ++ text (value_of value)) (c.in_ok-write_comma.ensures ∙ ap (λ o. o ++ comma_before place) c.loop-place.invariant.written)
          ∙ regrouped c.args.out.now _ (comma_before place) (text (value_of value))
          ∙ ap (λ l. c.args.out.now ++ l) (sym (elements_text-more c.args.values.now place value c.loop-place-test.true c.index-values-place.is));
      limits = elements_keep-more c.args.values.now place value c.loop-place-test.true c.index-values-place.is c.loop-place.invariant.limits c.in_ok-write_value.ensures.limits;
    }

pub write_members-loop-place-preserved : goal.write_members-loop-place-preserved
write_members-loop-place-preserved t c =
    let place = c.loop-place.place in
    let value = c.index-values-place.result in
    let name = c.index-names-place.result in
    let ms = c.args.members.now in
    let below : place < length ms
    = subst (λ n. place < n) (ap length c.values-values.ensures.same ∙ length-map ms (λ m. m.1)) c.loop-place-test.true in
    let names : name ≡ get_or (map (λ m. m.0) ms) place name = c.index-names-place.is ∙ ap (λ l. get_or l place name) c.names-names.ensures.same in
    let values : value ≡ get_or (map (λ m. m.1) ms) place value = c.index-values-place.is ∙ ap (λ l. get_or l place value) c.values-values.ensures.same in
    let at = member_at ms place name value below names values in
    record {
      written = c.in_ok-write_value.ensures.written
          ∙ ap (λ o. o ++ text (value_of value)) (c.in_ok-push.ensures.ok ∙ ap (λ o. o ++ 58 ∷ []) (c.in_ok-write_string.ensures.written
          ∙ ap (λ n. c.write_comma.new.out ++ string_text n) c.as_bytes.ensures.same
          ∙ ap (λ o. o ++ string_text name) (c.in_ok-write_comma.ensures ∙ ap (λ o. o ++ comma_before place) c.loop-place.invariant.written)))
          ∙ regrouped_member c.args.out.now _ (comma_before place) (string_text name) (text (value_of value))
          ∙ ap (λ l. c.args.out.now ++ l) (sym (members_text-more ms place (name, value) below at));
      limits = members_keep-more ms place (name, value) below at c.loop-place.invariant.limits (c.as_bytes.ensures.utf8, c.as_bytes.ensures.short) c.in_ok-write_value.ensures.limits;
    }

pub write_members-returns-clause-limits : goal.write_members-returns-clause-limits
write_members-returns-clause-limits t c =
    let place = c.loop-place.place in
    let ms = c.args.members.now in
    let all : length ms ≤ place = omega (arith, ap length c.values-values.ensures.same, length-map ms (λ m. m.1), c.loop-place-test.false) in (
      subst AreDistinct (sym (names_in-fields_of ms)) c.names-names.ensures.distinct,
      subst (λ l. MembersKeepLimits (fields_of l)) (take_all place ms all) c.loop-place.invariant.limits,
    )
