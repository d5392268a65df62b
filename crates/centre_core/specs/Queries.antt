-- The answer to a query.
use Rattle.std.specs.Prelude.{List, Bool, true, false, IsTrue}
use Rattle.std.specs.List.{filter}
use Rattle.identity.specs.Numbers.{Gtsi}
use Rattle.registration.specs.Registered.{longest_rule, radio_of, is_present}
use Rattle.group_attach.specs.declared.attachment.Attachment.{Attachment}
use Rattle.group_attach.specs.Attached.{groups_of, members_of}
use Rattle.mailbox.specs.Mail.{waiting}
use Rattle.centre_core.specs.declared.query.Query.{Query}
use Rattle.centre_core.specs.declared.query.Query.TheVariants as query
use Rattle.centre_core.specs.declared.query.QueryAnswer.{QueryAnswer}
use Rattle.centre_core.specs.declared.query.QueryAnswer.TheVariants as answer
use Rattle.centre_core.specs.State.{State}

-- the attachments to a group whose radios are present
abbrev pub present_members : State → Gtsi → List Attachment
present_members s gtsi = filter (λ a. is_present (radio_of s.registered a.itsi)) (members_of s.groups gtsi)

-- the answer to the query is a list; any other answer is one line
abbrev pub is_list_query : Query → Bool
is_list_query (query.Whereabouts itsi) = false
is_list_query (query.Look itsi) = false
is_list_query (query.GroupsOf itsi) = true
is_list_query (query.MembersOf gtsi) = true
is_list_query (query.Waiting itsi) = true
is_list_query query.Total = false

-- the same as a proposition
abbrev pub AsksForList : Query → Type 0
AsksForList q = IsTrue (is_list_query q)

-- the query that is answered. A is the allocator of the answer; nothing depends on it.
abbrev pub query_of : {A : Type 0} → QueryAnswer A → Query
query_of (answer.Whereabouts itsi radio) = query.Whereabouts itsi
query_of (answer.Look itsi rule) = query.Look itsi
query_of (answer.Groups itsi groups) = query.GroupsOf itsi
query_of (answer.Members gtsi members) = query.MembersOf gtsi
query_of (answer.Waiting itsi items) = query.Waiting itsi
query_of (answer.Total count) = query.Total

-- the answer to a query
abbrev pub answer_to : {A : Type 0} → State → Query → QueryAnswer A
answer_to s (query.Whereabouts itsi) = answer.Whereabouts itsi (radio_of s.registered itsi)
answer_to s (query.Look itsi) = answer.Look itsi (longest_rule s.registered itsi)
answer_to s (query.GroupsOf itsi) = answer.Groups itsi (groups_of s.groups itsi)
answer_to s (query.MembersOf gtsi) = answer.Members gtsi (present_members s gtsi)
answer_to s (query.Waiting itsi) = answer.Waiting itsi (waiting s.mail itsi)
answer_to s query.Total = answer.Total s.count
