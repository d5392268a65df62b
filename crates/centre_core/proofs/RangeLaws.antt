-- What a command makes of a state stays in its ranges.
use Rattle.std.proofs.Common.{◌≡◌, ℕ, ◌+◌, ◌-◌, ◌<◌, ◌≤◌, ◌^◌, Bool, true, false, List, [], ◌∷◌, length, map, refl, sym, ap, subst, arith, Option, Some, None, Result, Ok, Err}
use Rattle.std.specs.Prelude.{◌==◌, ◌&&◌, nat_lt, not, if◌then◌else◌, IfSome, IfOk, OnErr}
use Rattle.std.specs.Option.{option_map}
use Rattle.std.specs.List.{All, AllByRecursion, filter, fold}
use Rattle.std.specs.Cmp.{IsTotalOrder, then_total, on_total, nat_cmp_total}
use Rattle.std.specs.Ordering.{nat_cmp, ordering_then}
use Rattle.std.specs.declared.cmp.Ordering.{Ordering}
use Rattle.std.specs.declared.cmp.Ordering.TheVariants.{Less, Equal, Greater}
use Rattle.std.specs.FinMap as finite
use Rattle.std.proofs.lemmas.List.Elements.{All-nil, All-cons, All-append, All-filter, All-map, All-set, All-replicate, All-weaker}
use Rattle.base.proofs.Numbers.{above_none}
use Rattle.identity.specs.Path.{Path, path_cmp, id_path}
use Rattle.identity.specs.Inside.PathLaws.{paths_total, paths_exact, length-id_path}
use Rattle.prefix_tree.specs.Table.{NamesLongest}
use Rattle.prefix_tree.proofs.Longest.{names_longest}
use Rattle.mm_pdus.specs.declared.fault.MmFault.{MmFault}
use Rattle.mm_pdus.specs.declared.update.LocationUpdateType.{LocationUpdateType}
use Rattle.mm_pdus.specs.declared.group.GroupMode.{GroupMode}
use Rattle.mm_pdus.specs.declared.group.GroupMode.TheVariants.{Amendment, DetachAllFirst}
use Rattle.mm_pdus.specs.declared.group.GroupUp.{GroupUp}
use Rattle.mm_pdus.specs.declared.group.GroupUp.TheVariants as item
use Rattle.mm_pdus.specs.declared.uplink.MmUp.{MmUp}
use Rattle.mm_pdus.specs.declared.uplink.MmUp.TheVariants as up
use Rattle.mm_pdus.specs.Values.{accept_of, most_groups}
use Rattle.mm_pdus.specs.Address.{gtsi_of}
use Rattle.mm_pdus.specs.Groups.{IsGroupUp}
use Rattle.mm_pdus.specs.UplinkReading.{reading_up}
use Rattle.registration.specs.declared.rule.Rule.{Rule}
use Rattle.registration.specs.declared.radio.Radio.{Radio}
use Rattle.registration.specs.declared.fault.RegFault.{RegFault}
use Rattle.registration.specs.Registered.{Registered, longest_rule, rule_of, radio_of, set_refusal, locate_refusal, detach_refusal, detached_at, absent}
use Rattle.group_attach.specs.Attached.{Pair, Usage, Attached, pair_cmp, attachment_of, of_group}
use Rattle.group_attach.specs.Applied.{after_update, is_dropped, attached_by, changed_by, at_start, answer, answers, apply_refusal}
use Rattle.sds_tl.specs.declared.fault.SdsFault.{SdsFault}
use Rattle.sds_tl.specs.declared.pdu.Head.{Head}
use Rattle.sds_tl.specs.declared.pdu.Head.TheVariants as heads
use Rattle.sds_tl.specs.Reading.{heading}
use Rattle.sds_tl.specs.Transfers.{transfer_reference}
use Rattle.mailbox.specs.declared.fault.MailFault.{MailFault}
use Rattle.mailbox.specs.declared.key.Kind.TheVariants.{Report}
use Rattle.mailbox.specs.declared.key.Envelope.{Envelope}
use Rattle.mailbox.specs.declared.key.GroupEnvelope.{GroupEnvelope}
use Rattle.mailbox.specs.Values.{Item, Mailed, latest_deadline}
use Rattle.mailbox.specs.Item.{is_at, is_confirmed, is_expired, is_ended_by, answered}
use Rattle.mailbox.specs.Mail.{without, with_item, deadline_by}
use Rattle.mailbox.specs.Refusals.{post_refusal, report_refusal, ack_refusal, sent_refusal, delete_refusal}
use Rattle.mailbox.specs.GroupPost.{is_receiver, copy_for, group_posted, group_refusal}
use Rattle.centre_core.specs.declared.command.Command.{Command}
use Rattle.centre_core.specs.declared.command.Body.{Body}
use Rattle.centre_core.specs.declared.command.Body.TheVariants.{RuleSet, RuleClear, Mm, Sds, GroupSds, Sent, Expire, Delete}
use Rattle.centre_core.specs.declared.reply.Reply.{Reply}
use Rattle.centre_core.specs.declared.reply.Refusal.{Refusal}
use Rattle.centre_core.specs.declared.reply.Refusal.TheVariants.{Registration, Mail}
use Rattle.centre_core.specs.Ranges.{BodyInRange, InRange}
use Rattle.centre_core.specs.State.{State, LastAccepted, last_number}
use Rattle.centre_core.specs.StateRanges.{AllEntries, RuleEntryInRange, RadioInRange, AttachmentInRange, ItemInRange, IsReply, LastAcceptedInRange, StateInRange}
use Rattle.centre_core.specs.Step.{step, step_new, step_after, step_body, step_made, step_mm, step_sds, step_group_sds, accepted, last_at, is_station}
use Rattle.centre_core.specs.Step.{rule_set, rule_cleared, radio_located, radio_detached, groups_changed, mail_changed, envelope, message_of}
use Rattle.centre_core.specs.Step.{report_of, group_envelope, members, copies_of, IsOfStation}
use Rattle.centre_core.specs.Laws.{EmptyIsInRange, NextIsInRange}
use Rattle.centre_core.proofs.EntriesLaws.{insert_all, retain_all, remove_all, filtered_all, found_in, empty_all}
use Rattle.centre_core.proofs.PduRanges.{IsShortData, head_read, transfer_read, groups_read, gtsi_fits, acknowledge_fits, accept_fits, no_more}

-- ---- rules and radios

rule_set_ranges : (s : State) (prefix : Path) (rule : Rule) → RuleEntryInRange prefix rule → StateInRange s → StateInRange (rule_set s prefix rule)
rule_set_ranges s prefix rule fits h = record {
  limits = h.limits;
  rules = insert_all paths_total paths_exact RuleEntryInRange s.registered.rules prefix rule fits h.rules;
  radios = h.radios;
  attachments = h.attachments;
  mail = h.mail;
  served = h.served;
}

rule_cleared_ranges : (s : State) (prefix : Path) → StateInRange s → StateInRange (rule_cleared s prefix)
rule_cleared_ranges s prefix h = record {
  limits = h.limits;
  rules = remove_all paths_total paths_exact RuleEntryInRange s.registered.rules prefix h.rules;
  radios = h.radios;
  attachments = h.attachments;
  mail = h.mail;
  served = h.served;
}

-- the order of attachments
pairs_total : IsTotalOrder pair_cmp
pairs_total = then_total (on_total (λ (p : Pair). p.0) nat_cmp_total) (on_total (λ (p : Pair). p.1) nat_cmp_total)

exact_by : (p q : Pair) (o : Ordering) → nat_cmp p.0 q.0 ≡ o → ordering_then o (nat_cmp p.1 q.1) ≡ Equal → p ≡ q
exact_by p q Less e is = absurd cc
exact_by p q Equal e is = λ i. (finite.nat_cmp-IsAntisymmetric p.0 q.0 e i, finite.nat_cmp-IsAntisymmetric p.1 q.1 is i)
exact_by p q Greater e is = absurd cc

pairs_exact : finite.IsAntisymmetric pair_cmp
pairs_exact p q e = exact_by p q (nat_cmp p.0 q.0) refl e

updated : (m : Attached) (itsi : ℕ) (update : LocationUpdateType) → AllEntries AttachmentInRange m → AllEntries AttachmentInRange (after_update m itsi update)
updated m itsi update h = filtered_all pairs_total pairs_exact AttachmentInRange m (λ e. not ((e.0.0 == itsi) && is_dropped update e.1.1)) h

radio_located_ranges : (s : State) (itsi station area : ℕ) (update : LocationUpdateType) → 0 < station → station ≤ s.registered.limits.stations →
    area < 2 ^ 14 → StateInRange s → StateInRange (radio_located s itsi station area update)
radio_located_ranges s itsi station area update above known small h = record {
  limits = h.limits;
  rules = h.rules;
  radios = insert_all paths_total paths_exact (RadioInRange s.registered.limits.stations) s.registered.radios (id_path itsi) _ (length-id_path itsi, above, known, small) h.radios;
  attachments = updated s.groups itsi update h.attachments;
  mail = h.mail;
  served = h.served;
}

detached_by : (s : State) (itsi : ℕ) (radio : Option Radio) → radio_of s.registered itsi ≡ radio → StateInRange s → StateInRange (record s { registered = detached_at s.registered itsi radio })
detached_by s itsi None is h = h
detached_by s itsi (Some radio) is h =
    let is_ranged : RadioInRange s.registered.limits.stations (id_path itsi) radio =
    found_in paths_total paths_exact (RadioInRange s.registered.limits.stations) s.registered.radios (id_path itsi) radio h.radios is in
    record {
      limits = h.limits;
      rules = h.rules;
      radios = insert_all paths_total paths_exact (RadioInRange s.registered.limits.stations) s.registered.radios (id_path itsi) (absent radio) is_ranged h.radios;
      attachments = h.attachments;
      mail = h.mail;
      served = h.served;
    }

radio_detached_ranges : (s : State) (itsi : ℕ) → StateInRange s → StateInRange (radio_detached s itsi)
radio_detached_ranges s itsi h = detached_by s itsi (radio_of s.registered itsi) refl h

-- ---- groups

attached_ranges : (m : Attached) (pair : Pair) (class : ℕ) (rule : Option Rule) → pair.0 < 2 ^ 48 → pair.1 < 2 ^ 48 → class < 2 ^ 3 →
    AllEntries AttachmentInRange m → AllEntries AttachmentInRange (attached_by m pair class rule)
attached_ranges m pair class None radio group small h = h
attached_ranges m pair class (Some rule) radio group small h = insert_all pairs_total pairs_exact AttachmentInRange m pair (class, rule.lifetime) (radio, group, small) h

item_ranges : (r : Registered) (itsi : ℕ) (m : Attached) (i : GroupUp) → itsi < 2 ^ 48 → IsGroupUp i → AllEntries AttachmentInRange m → AllEntries AttachmentInRange (changed_by r itsi m i)
item_ranges r itsi m (item.Attach class address) small is h = attached_ranges m (itsi, gtsi_of address itsi) class (rule_of r (gtsi_of address itsi)) small (gtsi_fits address itsi is.1 small) is.0 h
item_ranges r itsi m (item.Leave reason address) small is h = remove_all pairs_total pairs_exact AttachmentInRange m (itsi, gtsi_of address itsi) h

items_ranges : (r : Registered) (itsi : ℕ) (m : Attached) (items : List GroupUp) → itsi < 2 ^ 48 → AllByRecursion IsGroupUp items →
    AllEntries AttachmentInRange m → AllEntries AttachmentInRange (fold (changed_by r itsi) m items)
items_ranges r itsi m [] small is h = h
items_ranges r itsi m (i ∷ items) small is h = items_ranges r itsi (changed_by r itsi m i) items small is.1 (item_ranges r itsi m i small is.0 h)

start_ranges : (m : Attached) (itsi : ℕ) (mode : GroupMode) → AllEntries AttachmentInRange m → AllEntries AttachmentInRange (at_start m itsi mode)
start_ranges m itsi Amendment h = h
start_ranges m itsi DetachAllFirst h = retain_all pairs_total pairs_exact AttachmentInRange m (λ pair. not (pair.0 == itsi)) h

groups_changed_ranges : (s : State) (itsi : ℕ) (mode : GroupMode) (items : List GroupUp) → itsi < 2 ^ 48 → AllByRecursion IsGroupUp items →
    StateInRange s → StateInRange (groups_changed s itsi mode items)
groups_changed_ranges s itsi mode items small is h = record {
  limits = h.limits;
  rules = h.rules;
  radios = h.radios;
  attachments = items_ranges s.registered itsi (at_start s.groups itsi mode) items small is (start_ranges s.groups itsi mode h.attachments);
  mail = h.mail;
  served = h.served;
}

-- ---- mail

mail_ranges : (s : State) (mail : Mailed) → All ItemInRange mail.items → StateInRange s → StateInRange (mail_changed s mail)
mail_ranges s mail all h = record { limits = h.limits; rules = h.rules; radios = h.radios; attachments = h.attachments; mail = all; served = h.served }

without_ranges : (s : State) (test : Item → Bool) → StateInRange s → StateInRange (mail_changed s (without test s.mail))
without_ranges s test h = mail_ranges s (without test s.mail) (All-filter (λ w. not (test w)) ItemInRange s.mail.items h.mail) h

-- the keep of an identity's rule
keep_by : (r : Registered) (entry : Option (Path × Rule)) → AllEntries RuleEntryInRange r.rules → (path : Path) → NamesLongest r.rules path entry →
    (moment : ℕ) → moment < 2 ^ 32 → deadline_by (option_map (λ e. e.1) entry) moment ≤ latest_deadline
keep_by r None rules path names moment small = omega (arith, small)
keep_by r (Some e) rules path names moment small =
    let fits : RuleEntryInRange e.0 e.1 = found_in paths_total paths_exact RuleEntryInRange r.rules e.0 e.1 rules names.in_map in
    omega (arith, small, fits.1.2)

deadline_fits : (s : State) (identity moment : ℕ) → StateInRange s → moment < 2 ^ 32 → deadline_by (rule_of s.registered identity) moment ≤ latest_deadline
deadline_fits s identity moment h small = keep_by s.registered (longest_rule s.registered identity) h.rules (id_path identity) (names_longest s.registered.rules (id_path identity)) moment small

-- both ends of an envelope
abbrev AreEnds : ℕ → ℕ → Type 0
AreEnds source destination = (source < 2 ^ 48) × (destination < 2 ^ 48)

message_ranges : (s : State) (moment source destination reference : ℕ) (pdu : List Bool) → moment < 2 ^ 32 → AreEnds source destination →
    IsShortData pdu reference → StateInRange s → ItemInRange (message_of s moment (envelope source destination reference) pdu)
message_ranges s moment source destination reference pdu small ends read h = record {
  key = (ends.1, ends.0, read.reference_small);
  deadline = deadline_fits s destination moment h small;
  pdu = read.short;
  group = tt;
}

report_ranges : (s : State) (moment source destination reference : ℕ) (pdu : List Bool) → moment < 2 ^ 32 → AreEnds source destination →
    IsShortData pdu reference → StateInRange s → ItemInRange (report_of s moment (envelope source destination reference) pdu)
report_ranges s moment source destination reference pdu small ends read h = record {
  key = (ends.1, ends.0, read.reference_small);
  deadline = deadline_fits s destination moment h small;
  pdu = read.written_short;
  group = tt;
}

put_ranges : (s : State) (items : List Item) (w : Item) → All ItemInRange items → ItemInRange w → All ItemInRange (with_item (record { room = s.mail.room; items = items }) w).items
put_ranges s items w all fits = All-append ItemInRange items (w ∷ []) all (All-cons ItemInRange w [] fits (All-nil ItemInRange))

posted_ranges : (s : State) (w : Item) → ItemInRange w → StateInRange s → StateInRange (mail_changed s (with_item s.mail w))
posted_ranges s w fits h = mail_ranges s (with_item s.mail w) (put_ranges s s.mail.items w h.mail fits) h

reported_ranges : (s : State) (e : Envelope) (status : ℕ) (w : Item) → ItemInRange w → StateInRange s → StateInRange (mail_changed s (with_item (without (is_ended_by e status) s.mail) w))
reported_ranges s e status w fits h =
    let left : List Item = (without (is_ended_by e status) s.mail).items in
    mail_ranges s (with_item (without (is_ended_by e status) s.mail) w) (put_ranges s left w (All-filter (λ o. not (is_ended_by e status o)) ItemInRange s.mail.items h.mail) fits) h

members_small : (s : State) (group : ℕ) → StateInRange s → All (λ n. n < 2 ^ 48) (members s group)
members_small s group h =
    let part : Attached = of_group s.groups group in
    let all : AllEntries AttachmentInRange part = retain_all pairs_total pairs_exact AttachmentInRange s.groups (λ pair. pair.1 == group) h.attachments in
    All-map (λ n. n < 2 ^ 48) (λ a. a.itsi) (map attachment_of (finite.entries part))
    (All-map (λ a. a.itsi < 2 ^ 48) attachment_of (finite.entries part)
    (All-weaker (λ e. AttachmentInRange e.0 e.1) (λ (e : Pair × Usage). e.0.0 < 2 ^ 48) (λ e fits. fits.0) (finite.entries part) all))

copies_ranges : (s : State) (moment source group reference : ℕ) (pdu : List Bool) → moment < 2 ^ 32 → AreEnds source group →
    IsShortData pdu reference → StateInRange s → All ItemInRange (copies_of s moment (group_envelope source group reference) pdu)
copies_ranges s moment source group reference pdu small ends read h =
    let e : GroupEnvelope = group_envelope source group reference in
    let receivers : List ℕ = filter (is_receiver s.registered source) (members s group) in
    All-map ItemInRange (copy_for s.registered e (record { number = s.count + 1; moment = moment }) pdu) receivers
    (All-weaker (λ n. n < 2 ^ 48) (λ n. ItemInRange (copy_for s.registered e (record { number = s.count + 1; moment = moment }) pdu n))
    (λ member fits. record {
      key = (fits, ends.0, read.reference_small);
      deadline = deadline_fits s group moment h small;
      pdu = read.short;
      group = ends.1;
    }) receivers
    (All-filter (is_receiver s.registered source) (λ n. n < 2 ^ 48) (members s group) (members_small s group h)))

group_posted_ranges : (s : State) (ws : List Item) → All ItemInRange ws → StateInRange s → StateInRange (mail_changed s (group_posted s.mail ws))
group_posted_ranges s ws all h = mail_ranges s (group_posted s.mail ws) (All-append ItemInRange s.mail.items ws h.mail all) h

-- ---- the step

module _ {A : Type 0} where
  accepted_ranges : (t : State) (c : Command A) (pdu : Option (List Bool)) → InRange c → IsReply pdu → StateInRange t → StateInRange (accepted t c pdu)
  accepted_ranges t c pdu given reply h = record {
    limits = h.limits;
    rules = h.rules;
    radios = h.radios;
    attachments = h.attachments;
    mail = h.mail;
    served = All-set (λ last. IfSome last LastAcceptedInRange) t.served (c.station - 1) _ (record { above = given.above; sequence = given.sequence; pdu = reply }) h.served;
  }

-- what a step makes of a state
abbrev GivesInRange : (B : Type 0) → State × Reply B → Type 0
GivesInRange B r = StateInRange r.0

by_test : (B : Type 0) (b : Bool) (x y : State × Reply B) → (b ≡ true → GivesInRange B x) → GivesInRange B y → GivesInRange B (if b then x else y)
by_test B true x y h k = h refl
by_test B false x y h k = k

module _ {A : Type 0} (B : Type 0) where
  made : {F : Type 0} (s : State) (c : Command A) (new : State) (pdu : Option (List Bool)) (name : F → Refusal B) (refusal : Option F) → InRange c →
      IsReply pdu → StateInRange s → StateInRange new → GivesInRange B (step_made s c new pdu (option_map name refusal))
  made s c new pdu name (Some fault) given reply h k = h
  made s c new pdu name None given reply h k = accepted_ranges new c pdu given reply k

  mm_ranges : (s : State) (c : Command A) (itsi area : ℕ) (pdu : List Bool) (read : Result (MmUp B) MmFault) → reading_up pdu ≡ read → InRange c →
      IsOfStation s c → itsi < 2 ^ 48 → area < 2 ^ 14 → StateInRange s → GivesInRange B (step_mm s c itsi area read)
  mm_ranges s c itsi area pdu (Err fault) is given of small near h = h
  mm_ranges s c itsi area pdu (Ok (up.Demand update)) is given of small near h =
      made s c _ _ _ (locate_refusal s.registered itsi area update) given (accept_fits (accept_of update)) h (radio_located_ranges s itsi c.station area update of.0 of.1 near h)
  mm_ranges s c itsi area pdu (Ok up.Detach) is given of small near h = made s c _ _ _ (detach_refusal s.registered itsi) given tt h (radio_detached_ranges s itsi h)
  mm_ranges s c itsi area pdu (Ok (up.Groups mode items)) is given of small near h =
      let groups = groups_read {A = B} pdu mode items is in
      let few : length (answers s.registered itsi items) ≤ most_groups = omega (arith, groups.0, no_more (answer s.registered itsi) items) in
      made s c _ _ _ (apply_refusal s.registered s.groups itsi mode items) given (acknowledge_fits (answers s.registered itsi items) few) h (groups_changed_ranges s itsi mode items small groups.1 h)

  sds_ranges : (s : State) (c : Command A) (source destination : ℕ) (pdu : List Bool) (head : Result Head SdsFault) → heading pdu ≡ head → InRange c →
      AreEnds source destination → StateInRange s → GivesInRange B (step_sds s c source destination pdu head)
  sds_ranges s c source destination pdu (Err fault) is given ends h = h
  sds_ranges s c source destination pdu (Ok (heads.Transfer request reference)) is given ends h =
      let w : Item = message_of s c.moment (envelope source destination reference) pdu in
      made s c _ _ _ (post_refusal s.registered s.mail w) given tt h
      (posted_ranges s w (message_ranges s c.moment source destination reference pdu given.moment ends
      (head_read pdu (heads.Transfer request reference) is) h) h)
  sds_ranges s c source destination pdu (Ok (heads.Report acknowledge status reference)) is given ends h =
      let e : Envelope = envelope source destination reference in
      let w : Item = report_of s c.moment e pdu in
      made s c _ _ _ (report_refusal s.registered s.mail e status w) given tt h
      (reported_ranges s e status w (report_ranges s c.moment source destination reference pdu given.moment ends (head_read pdu (heads.Report acknowledge status reference) is) h) h)
  sds_ranges s c source destination pdu (Ok (heads.Ack status reference)) is given ends h =
      let e : Envelope = envelope source destination reference in
      made s c _ _ _ (ack_refusal s.registered s.mail e) given tt h (without_ranges s (is_at (answered e Report)) h)

  group_sds_ranges : (s : State) (c : Command A) (source group : ℕ) (pdu : List Bool) (read : Result ℕ SdsFault) →
      transfer_reference (heading pdu) ≡ read → InRange c → AreEnds source group → StateInRange s →
      GivesInRange B (step_group_sds s c source group pdu read)
  group_sds_ranges s c source group pdu (Err fault) is given ends h = h
  group_sds_ranges s c source group pdu (Ok reference) is given ends h =
      let e : GroupEnvelope = group_envelope source group reference in
      let ws : List Item = copies_of s c.moment e pdu in
      made s c _ _ _ (group_refusal s.registered s.mail e ws) given tt h
      (group_posted_ranges s ws (copies_ranges s c.moment source group reference pdu given.moment ends (transfer_read pdu reference is) h) h)

  body_ranges : (s : State) (c : Command A) (b : Body A) → BodyInRange b → InRange c → IsOfStation s c → StateInRange s → GivesInRange B (step_body s c b)
  body_ranges s c (RuleSet prefix rule) fits given of h = made s c _ _ _ (set_refusal s.registered prefix) given tt h (rule_set_ranges s prefix rule fits h)
  body_ranges s c (RuleClear prefix) fits given of h = made {F = RegFault} s c _ _ Registration None given tt h (rule_cleared_ranges s prefix h)
  body_ranges s c (Mm itsi area pdu) fits given of h = mm_ranges s c itsi area pdu (reading_up pdu) refl given of fits.0 fits.1 h
  body_ranges s c (Sds source destination pdu) fits given of h = sds_ranges s c source destination pdu (heading pdu) refl given (fits.0, fits.1) h
  body_ranges s c (GroupSds source group pdu) fits given of h = group_sds_ranges s c source group pdu (transfer_reference (heading pdu)) refl given (fits.0, fits.1) h
  body_ranges s c (Sent key) fits given of h = made s c _ _ _ (sent_refusal s.registered s.mail key) given tt h (without_ranges s (is_confirmed key) h)
  body_ranges s c Expire fits given of h = made {F = MailFault} s c _ _ Mail None given tt h (without_ranges s (is_expired c.moment) h)
  body_ranges s c (Delete key) fits given of h = made s c _ _ _ (delete_refusal s.mail key) given tt h (without_ranges s (is_at key) h)

  new_ranges : (s : State) (c : Command A) → InRange c → IsOfStation s c → StateInRange s → GivesInRange B (step_new s c)
  new_ranges s c given of h = by_test B (nat_lt s.count last_number) _ _ (λ _. body_ranges s c c.body given.body given of h) h

  after_ranges : (s : State) (c : Command A) (kept : Option LastAccepted) → InRange c → IsOfStation s c → StateInRange s → GivesInRange B (step_after s c kept)
  after_ranges s c None given of h = new_ranges s c given of h
  after_ranges s c (Some last) given of h = by_test B (nat_lt c.sequence last.sequence) _ _ (λ _. h) (by_test B (c.sequence == last.sequence) _ _ (λ _. h) (new_ranges s c given of h))

  step_ranges : (s : State) (c : Command A) → InRange c → StateInRange s → GivesInRange B (step s c)
  unfolding step
  step_ranges s c given h = by_test B (is_station s c.station) _ _ (λ e. after_ranges s c (last_at s c.station) given (above_none c.station s.registered.limits.stations e) h) h

  -- so too of the state that a call leaves
  pub applied_ranges : {E : Type 0} (s t : State) (c : Command A) (result : Result (Reply B) E) → InRange c →
      IfOk result (λ reply. (t, reply) ≡ step s c) → OnErr result (t ≡ s) → StateInRange s → StateInRange t
  applied_ranges s t c (Ok reply) given ok err h = subst StateInRange (sym (ap (λ r. r.0) ok)) (step_ranges s c given h)
  applied_ranges s t c (Err e) given ok err h = subst StateInRange (sym err) h

pub next_is_in_range : (A : Type 0) → NextIsInRange A
next_is_in_range A s c given h = step_ranges A s c given h

pub empty_is_in_range : EmptyIsInRange
empty_is_in_range limits = record {
  limits = limits.in_range;
  rules = empty_all path_cmp RuleEntryInRange;
  radios = empty_all path_cmp (RadioInRange limits.stations);
  attachments = empty_all pair_cmp AttachmentInRange;
  mail = All-nil ItemInRange;
  served = All-replicate (λ (last : Option LastAccepted). IfSome last LastAcceptedInRange) limits.stations None tt;
}
