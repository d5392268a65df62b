-- A viewer, and a list of commands that was published, may cross threads; threads may share a register. Each fact goes by the parts of its
-- type. Node-sync of `TheKnot` is the same of a type that holds itself, where it holds of each layer.
use denote.RattleType.{RattleType}
use denote.Param.Send.{IsSend, IsSync, view_send, sendable}
use denote.Param.SendFields.{declared_send}
use Rattle.std.proofs.Crossing.{send, sync, frees, Box-sync, Vec-sync}
use Rattle.std.specs.contracts.alloc.Global as Heap
use Rattle.std.specs.contracts.impls.GlobalAllocator.TheImpl.{ghosts}
use Rattle.std.specs.contracts.option.Option as option
use Rattle.std.specs.contracts.vec.Vec as vec
use Rattle.identity.proofs.prefix.Prefix.TheSendSync as prefix
use Rattle.prefix_tree.proofs.node.Node.TheLaws.TheKnot as knot
use Rattle.prefix_tree.specs.contracts.node.Node as node
use Rattle.prefix_tree.specs.contracts.tree.PrefixTree as tree
use Rattle.registration.proofs.rule.Rule.TheSendSync as served_rule
use Rattle.registration.proofs.radios.Radios.TheSendSync as radios_crosses
use Rattle.registration.specs.contracts.radios.Radios as radios
use Rattle.registration.specs.contracts.registry.Registry as registry
use Rattle.group_attach.proofs.groups.Groups.TheSendSync as groups_crosses
use Rattle.group_attach.specs.contracts.groups.Groups as groups
use Rattle.mailbox.proofs.node.Node.TheLaws.TheKnot as mail_knot
use Rattle.mailbox.proofs.place.ItemPlace.TheSendSync as place
use Rattle.mailbox.proofs.boxes.Boxes.TheSendSync as boxes_crosses
use Rattle.mailbox.specs.contracts.boxes.Boxes as boxes
use Rattle.mailbox.specs.contracts.node.Node as mail_node
use Rattle.mailbox.specs.contracts.order.Order as order
use Rattle.mailbox.specs.contracts.mail.Mail as mail
use Rattle.centre_core.proofs.last_accepted.LastAccepted.TheSendSync as last_crosses
use Rattle.centre_core.specs.contracts.last_accepted.LastAccepted as last
use Rattle.centre_core.specs.contracts.tables.Tables as tables
use Rattle.centre_core.specs.contracts.register.Register as register
use Rattle.logbook.proofs.tokens.Seen.TheSendSync as seen
use Rattle.left_right.proofs.reader.Reader.TheSendSync as reader_crosses
use Rattle.left_right.specs.contracts.reader.Reader as reader
use Rattle.crossbeam_utils.specs.declared.rule.Protocol.{Ghosts}
use Rattle.snapshots.specs.declared.log.Centre as centre
use Rattle.snapshots.specs.contracts.snapshot.Snapshot as snapshot
use Rattle.snapshots.specs.contracts.published.Published as published
use Rattle.snapshots.specs.contracts.rule.CopyView as view
use Rattle.snapshots.specs.contracts.rule.ViewsRule as rule
use Rattle.snapshots.specs.contracts.rule.ViewsRuleProtocolSnapshotCopyView.TheImpl as protocol
use Rattle.snapshots.specs.contracts.viewer.Viewer as viewer
use Rattle.snapshots.specs.contracts.viewer.Viewer.TheInside as inside

-- ---- a register, shared
node_sync : (T : RattleType) → IsSync T → IsSync (node.the_row T Heap.the_row ghosts)
node_sync T y = knot.sync-Node T Heap.the_row ghosts (search (prefix.the_sync, sendable)) (λ h s. search (Box-sync, sendable) depth 20) (search sendable depth 20)

tree_sync : (T : RattleType) → IsSync T → IsSync (tree.the_row T Heap.the_row ghosts)
tree_sync T y = search (sendable, node_sync, sync) depth 20

radios_sync : IsSync (radios.the_row Heap.the_row ghosts)
radios_sync = radios_crosses.the_sync Heap.the_row ghosts sync

registry_sync : IsSync (registry.the_row Heap.the_row ghosts)
registry_sync = search (sendable, tree_sync, served_rule.the_sync, radios_sync) depth 20

groups_sync : IsSync (groups.the_row Heap.the_row ghosts)
groups_sync = groups_crosses.the_sync Heap.the_row ghosts sync

mail_node_sync : IsSync (mail_node.the_row Heap.the_row ghosts)
mail_node_sync = mail_knot.sync-Node Heap.the_row ghosts (search (place.the_sync, sendable)) (search sendable) (search sendable) (λ h s. search (Box-sync, sendable) depth 20)

order_sync : IsSync (order.the_row Heap.the_row ghosts)
order_sync = search (sendable, Box-sync, mail_node_sync, sync) depth 20

boxes_sync : IsSync (boxes.the_row Heap.the_row ghosts)
boxes_sync = boxes_crosses.the_sync Heap.the_row ghosts sync

mail_sync : IsSync (mail.the_row Heap.the_row ghosts)
mail_sync = search (sendable, order_sync, boxes_sync) depth 20

last_sync : IsSync (last.the_row Heap.the_row ghosts)
last_sync = last_crosses.the_sync Heap.the_row ghosts sync

kept_sync : IsSync (option.the_row (last.the_row Heap.the_row ghosts))
kept_sync = search (sendable, last_sync) depth 20

served_sync : IsSync (vec.the_row (option.the_row (last.the_row Heap.the_row ghosts)) Heap.the_row ghosts)
served_sync = Vec-sync _ kept_sync

tables_sync : IsSync (tables.the_row Heap.the_row ghosts)
tables_sync = search (sendable, sync, registry_sync, mail_sync, served_sync, groups_sync) depth 20

pub register_sync : IsSync (register.the_row Heap.the_row ghosts)
register_sync = search (sendable, tables_sync) depth 20

-- ---- what a viewer holds
snapshot_sync : IsSync snapshot.the_row
snapshot_sync = search (sendable, sync, register_sync, seen.the_sync) depth 20

reader_send : (V P : RattleType) (g : Ghosts P.Denot snapshot.the_row.Denot V.Denot) → IsSend (reader.the_row snapshot.the_row V P Heap.the_row g ghosts)
reader_send V P g = reader_crosses.the_send snapshot.the_row V P Heap.the_row g ghosts send snapshot_sync sync frees

pub published_send : (T : RattleType) (g : centre.Ghosts T.Denot) → IsSend T → IsSend (published.the_row T g)
published_send T g s = search (sendable, seen.the_send) depth 20

inside_send : (T : RattleType) (g : centre.Ghosts T.Denot) → IsSend T → IsSend (inside.the_row T g)
inside_send T g s =
    let reads = reader_send view.the_row (rule.the_row T) (protocol.ghosts T g protocol.no_dict) in
    let knows = published_send T g s in
    declared_send (inside.the_type T g) (reads, (knows, (search sendable, tt)))

pub viewer_send : (T : RattleType) (g : centre.Ghosts T.Denot) → IsSend T → IsSend (viewer.the_row T g)
viewer_send T g s = let i = inside_send T g s in search (i, view_send)
