-- What holds of every state holds after what a rule, a location update, a detach and groups make of it.
use Rattle.std.proofs.Common.{◌≡◌, ℕ, false, List, refl, sym, subst, ap, ◌∙◌, Option, None}
use Rattle.identity.specs.Path.{Path}
use Rattle.mm_pdus.specs.declared.update.LocationUpdateType.{LocationUpdateType}
use Rattle.mm_pdus.specs.declared.group.GroupMode.{GroupMode}
use Rattle.mm_pdus.specs.declared.group.GroupUp.{GroupUp}
use Rattle.registration.specs.declared.rule.Rule.{Rule}
use Rattle.registration.specs.Registered.{Registered, set_refusal, with_rule, without_rule, has_radio, room_refusal, located, detached}
use Rattle.group_attach.specs.Attached.{Attached}
use Rattle.group_attach.specs.Applied.{after_update, applied, apply_refusal}
use Rattle.group_attach.proofs.AllowedLaws.{after_update_fits, after_update_known, after_update_new, applied_fits, applied_known, known_after}
use Rattle.mailbox.specs.Values.{Mailed}
use Rattle.centre_core.specs.State.{State, LastAccepted, IsState}
use Rattle.centre_core.specs.Step.{rule_set, rule_cleared, radio_located, radio_detached, groups_changed}
use Rattle.centre_core.proofs.RegisteredLaws.{with_rule_within, without_rule_within, located_within, located_still, detached_within, detached_still, detached_limits}

-- what a step may change of a state before the command is counted
pub record IsChange (s t : State) : Type 0 where
  pub limits : t.registered.limits ≡ s.registered.limits
  pub served : t.served ≡ s.served
  pub count : t.count ≡ s.count
  pub state : IsState s → IsState t

pub rule_set_change : (s : State) (prefix : Path) (rule : Rule) → set_refusal s.registered prefix ≡ None → IsChange s (rule_set s prefix rule)
rule_set_change s prefix rule none = record {
  limits = refl;
  served = refl;
  count = refl;
  state = λ h. record {
    within = with_rule_within s.registered prefix rule none h.within;
    attachments = h.attachments;
    mail = record { in_order = h.mail.in_order; room = h.mail.room };
    stations = h.stations;
    count = h.count;
    last = h.last;
  };
}

pub rule_cleared_change : (s : State) (prefix : Path) → IsChange s (rule_cleared s prefix)
rule_cleared_change s prefix = record {
  limits = refl;
  served = refl;
  count = refl;
  state = λ h. record {
    within = without_rule_within s.registered prefix h.within;
    attachments = h.attachments;
    mail = record { in_order = h.mail.in_order; room = h.mail.room };
    stations = h.stations;
    count = h.count;
    last = h.last;
  };
}

pub radio_located_change : (s : State) (itsi station area : ℕ) (update : LocationUpdateType) → room_refusal s.registered itsi ≡ None → IsChange s (radio_located s itsi station area update)
radio_located_change s itsi station area update none = record {
  limits = refl;
  served = refl;
  count = refl;
  state = λ h. record {
    within = located_within s.registered itsi station area none h.within;
    attachments = (
      after_update_fits s.groups itsi update h.attachments.0,
      after_update_known (located s.registered itsi station area) s.groups itsi update
          (known_after s.registered (located s.registered itsi station area) s.groups (located_still s.registered itsi station area) h.attachments.1),
    );
    mail = record { in_order = h.mail.in_order; room = h.mail.room };
    stations = h.stations;
    count = h.count;
    last = h.last;
  };
}

pub radio_detached_change : (s : State) (itsi : ℕ) → IsChange s (radio_detached s itsi)
radio_detached_change s itsi = record {
  limits = detached_limits s.registered itsi;
  served = refl;
  count = refl;
  state = λ h. record {
    within = detached_within s.registered itsi h.within;
    attachments = (h.attachments.0, known_after s.registered (detached s.registered itsi) s.groups (detached_still s.registered itsi) h.attachments.1);
    mail = record { in_order = h.mail.in_order; room = h.mail.room ∙ ap (λ l. l.mail) (sym (detached_limits s.registered itsi)) };
    stations = h.stations ∙ ap (λ l. l.stations) (sym (detached_limits s.registered itsi));
    count = h.count;
    last = h.last;
  };
}

pub groups_changed_change : (s : State) (itsi : ℕ) (mode : GroupMode) (items : List GroupUp) →
    apply_refusal s.registered s.groups itsi mode items ≡ None → IsChange s (groups_changed s itsi mode items)
groups_changed_change s itsi mode items none = record {
  limits = refl;
  served = refl;
  count = refl;
  state = λ h. record {
    within = h.within;
    attachments = (applied_fits s.registered s.groups itsi mode items none h.attachments.0, applied_known s.registered s.groups itsi mode items none h.attachments.1);
    mail = record { in_order = h.mail.in_order; room = h.mail.room };
    stations = h.stations;
    count = h.count;
    last = h.last;
  };
}

-- so too of any value that is known to be such a change
pub rule_set_state : (s : State) (new : Registered) (prefix : Path) (rule : Rule) → set_refusal s.registered prefix ≡ None →
    new ≡ with_rule s.registered prefix rule → IsState s → IsState (record s { registered = new })
rule_set_state s new prefix rule none e h = subst (λ r. IsState (record s { registered = r })) (sym e) ((rule_set_change s prefix rule none).state h)

pub rule_cleared_state : (s : State) (new : Registered) (prefix : Path) → new ≡ without_rule s.registered prefix → IsState s → IsState (record s { registered = new })
rule_cleared_state s new prefix e h = subst (λ r. IsState (record s { registered = r })) (sym e) ((rule_cleared_change s prefix).state h)

pub radio_located_state : (s : State) (new : Registered) (groups : Attached) (itsi station area : ℕ) (update : LocationUpdateType) →
    room_refusal s.registered itsi ≡ None → new ≡ located s.registered itsi station area → groups ≡ after_update s.groups itsi update → IsState s →
    IsState (record s { registered = new; groups = groups })
radio_located_state s new groups itsi station area update none e f h =
    subst (λ r. IsState (record s { registered = r; groups = groups })) (sym e)
    (subst (λ m. IsState (record s { registered = located s.registered itsi station area; groups = m })) (sym f) ((radio_located_change s itsi station area update none).state h))

-- of a new radio no attachment ends
pub new_located : (s : State) (itsi : ℕ) (update : LocationUpdateType) → IsState s → false ≡ has_radio s.registered itsi → s.groups ≡ after_update s.groups itsi update
new_located s itsi update h new = sym (after_update_new s.registered s.groups itsi update h.attachments.1 (sym new))

pub new_located_whole : (s : State) (new : Registered) (itsi station area : ℕ) (update : LocationUpdateType) →
    (room_refusal s.registered itsi ≡ None) × (new ≡ located s.registered itsi station area) → false ≡ has_radio s.registered itsi → IsState s
    → (room_refusal s.registered itsi ≡ None) × (record s { registered = new } ≡ radio_located s itsi station area update)
new_located_whole s new itsi station area update done is_new h =
    (done.0, ap (λ r. record s { registered = r }) done.1 ∙ ap (λ m. record s { registered = located s.registered itsi station area; groups = m }) (new_located s itsi update h is_new))

pub radio_detached_state : (s : State) (new : Registered) (itsi : ℕ) → new ≡ detached s.registered itsi → IsState s → IsState (record s { registered = new })
radio_detached_state s new itsi e h = subst (λ r. IsState (record s { registered = r })) (sym e) ((radio_detached_change s itsi).state h)

pub groups_changed_state : (s : State) (groups : Attached) (itsi : ℕ) (mode : GroupMode) (items : List GroupUp) →
    apply_refusal s.registered s.groups itsi mode items ≡ None → groups ≡ applied s.registered s.groups itsi mode items → IsState s →
    IsState (record s { groups = groups })
groups_changed_state s groups itsi mode items none e h = subst (λ m. IsState (record s { groups = m })) (sym e) ((groups_changed_change s itsi mode items none).state h)

pub same_state : (s : State) (new : Registered) (groups : Attached) (mail : Mailed) (served : List (Option LastAccepted)) → new ≡ s.registered →
    groups ≡ s.groups → mail ≡ s.mail → served ≡ s.served → IsState s
    → IsState (record { registered = new; groups = groups; mail = mail; served = served; count = s.count })
same_state s new groups mail served e f g k h = rw (e, f, g, k) h

pub same_whole : (s : State) (new : Registered) (groups : Attached) (mail : Mailed) (served : List (Option LastAccepted)) → new ≡ s.registered → groups ≡ s.groups → mail ≡ s.mail → served ≡ s.served
    → (let t : State = record { registered = new; groups = groups; mail = mail; served = served; count = s.count } in t) ≡ s
same_whole s new groups mail served e f g k = rw (e, f, g, k) refl
