pub mod LayerLaws
pub mod TransportLaws
pub mod Datagrams
pub mod View
pub mod MatchView
pub mod PacketLayers
pub mod PlacesIn
